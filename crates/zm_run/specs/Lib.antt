pub mod Inputs
pub mod RunEnds
pub mod GoodScripts
pub mod Running
pub mod Numbers
pub mod Stops
