pub mod Sights
pub mod StreamParts
pub mod Turned
