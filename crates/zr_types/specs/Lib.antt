pub mod Tables
pub mod Visibility
pub mod Sound
pub mod Commands
pub mod Refusals
pub mod Effects
pub mod Checks
pub mod Commits
