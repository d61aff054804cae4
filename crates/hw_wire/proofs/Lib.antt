pub mod Begins
pub mod Buffers
pub mod Decided
pub mod Headless
pub mod Lengths
pub mod ShortBodies
