pub mod PostParts
