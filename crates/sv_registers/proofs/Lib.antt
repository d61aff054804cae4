pub mod Growing
pub mod OpenedQueues
pub mod FilledQueues
