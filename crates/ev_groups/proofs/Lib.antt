mod Samples
pub mod Ids
mod GroupFolds
mod Alike
mod FlagCells
pub mod GroupedApply
pub mod Taking
pub mod SetIds
