pub mod Orders
pub mod QueueIds
pub mod Roles
pub mod Texts
