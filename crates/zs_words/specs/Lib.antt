pub mod Lists
pub mod Names
pub mod Numbers
pub mod Readings
pub mod StreamRefs
pub mod TextParts
pub mod Texts
