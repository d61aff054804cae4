pub mod AlonePlays
mod FetchFlow
pub mod FinishSteps
pub mod Growing
pub mod Keeping
pub mod LineSteps
mod NeededOrder
pub mod PollSteps
pub mod PushRounds
pub mod RegisterFlow
pub mod Steps
pub mod TickFlow
pub mod Turns
