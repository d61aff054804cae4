pub mod RefusalLemmas
pub mod CommitLemmas
pub mod DistinctLemmas
