pub mod ItemLemmas
pub mod AccountLemmas
pub mod TailLemmas
pub mod StagedLemmas
pub mod PollLemmas
pub mod KeptSteps
