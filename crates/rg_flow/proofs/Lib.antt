pub mod FlowLemmas
pub mod Parts
pub mod States
