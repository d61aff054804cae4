pub mod UserRows
pub mod SightShift
pub mod Still
pub mod Changed
pub mod Added
pub mod PeopleTold
pub mod Checked
