mod Arriving
mod Quiet
mod Cells
mod Groups
mod Tests
mod Whole
mod PeopleLead
mod SubscribersLead
mod Moves
mod MessagesLead
mod MarksLead
mod ReactionsLead
pub mod ViewLeads
mod Samples
pub mod Loops
mod Moving
mod Ranges
