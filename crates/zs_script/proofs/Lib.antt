pub mod Combined
pub mod Failing
pub mod FetchOrder
pub mod Meanings
pub mod Playable
pub mod StepAnswers
pub mod StepLists
