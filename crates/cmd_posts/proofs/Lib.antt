pub mod SenderLemmas
pub mod CheckLemmas
pub mod FoundRows
pub mod MovingLemmas
