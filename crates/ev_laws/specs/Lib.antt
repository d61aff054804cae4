pub mod Compared
pub mod Kept
pub mod Laws
