pub mod OneMessage
pub mod DeletedTold
pub mod EditedTold
pub mod SentTold
pub mod Sending
pub mod PostsTold
