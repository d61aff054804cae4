pub mod Reading
pub mod Values
pub mod Lists
pub mod Names
pub mod Rows
pub mod Events
