pub mod Values
pub mod Rows
pub mod Events
pub mod Bodies
