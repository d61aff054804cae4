pub mod Links
pub mod Memory
pub mod Ports
pub mod Standard
