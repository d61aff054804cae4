pub mod Backends
pub mod Seen
pub mod SeenLaws
