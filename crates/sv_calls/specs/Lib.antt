pub mod Flows
pub mod Pushing
