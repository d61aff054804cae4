pub mod Lists
pub mod Puts
pub mod TextReads
pub mod Utf8Texts
