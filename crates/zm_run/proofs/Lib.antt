pub mod Sound
pub mod Feeds
pub mod Told
pub mod Playing
pub mod Ending
pub mod Complete
