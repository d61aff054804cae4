pub mod CoreStates
pub mod CoreSteps
