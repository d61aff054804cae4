pub mod HeldLemmas
pub mod StepLemmas
pub mod EntryLemmas
pub mod LoopLemmas
pub mod ReplyLemmas
pub mod HearingLemmas
