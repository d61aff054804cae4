pub mod Values
pub mod SoundTests
pub mod Stored
pub mod Room
pub mod Parts
