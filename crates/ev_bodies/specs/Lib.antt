pub mod Keys
pub mod Sections
pub mod Bodies
pub mod Fits
