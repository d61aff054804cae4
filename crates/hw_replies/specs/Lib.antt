pub mod Answers
pub mod Problems
