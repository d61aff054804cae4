pub mod PeopleParts
pub mod Shown
