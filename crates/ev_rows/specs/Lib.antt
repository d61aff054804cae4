pub mod Clones
pub mod KeyOrder
pub mod Lent
pub mod Place
pub mod Rows
