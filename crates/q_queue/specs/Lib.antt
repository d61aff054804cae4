pub mod Polled
pub mod QueueValue
pub mod Staging
pub mod Stored
