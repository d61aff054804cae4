pub mod ChangedRows
pub mod Samples
