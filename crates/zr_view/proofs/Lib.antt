mod Samples
pub mod SiftedLemmas
pub mod SubscriberLemmas
pub mod TurnedLemmas
