pub mod Flows
pub mod Parts
pub mod Played
pub mod States
