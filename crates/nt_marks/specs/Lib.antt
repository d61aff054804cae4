pub mod MarkParts
