pub mod Held
pub mod Refusing
pub mod News
pub mod Replicas
pub mod Written
