pub mod ShardInputs
pub mod HeldQueues
pub mod Hearing
