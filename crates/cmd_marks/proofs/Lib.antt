pub mod CountLemmas
pub mod FlagLemmas
pub mod ReactionLemmas
pub mod RemovalLemmas
