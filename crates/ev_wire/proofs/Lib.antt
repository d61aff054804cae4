pub mod FloatFree
pub mod Puts
pub mod Told
