pub mod Kinds
pub mod Makers
pub mod Room
pub mod Walking
pub mod Lasts
pub mod AllWrites
