pub mod Outcomes
pub mod Playing
pub mod Clients
pub mod Promises
pub mod Texts
