pub mod PrefixCommits
pub mod RealmTraces
pub mod ItemLemmas
pub mod Phases
pub mod Traces
pub mod Alike
pub mod Steps
pub mod Insides
pub mod Uncut
pub mod KeptSteps
pub mod Few
pub mod Rising
pub mod KeptQueues
pub mod Steady
mod Samples
