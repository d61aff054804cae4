pub mod Forms
pub mod Json
pub mod Named
pub mod Numbers
pub mod Params
pub mod Readings
pub mod Words
