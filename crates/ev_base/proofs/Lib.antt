pub mod QueueTexts
pub mod TextLemmas
