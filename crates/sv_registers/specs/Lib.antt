pub mod Fetches
pub mod Openings
pub mod Registrations
