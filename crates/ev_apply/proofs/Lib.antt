pub mod Prefixes
pub mod Rooms
pub mod Loops
pub mod LastsLemmas
pub mod WalkLemmas
pub mod Ready
