pub mod FlagCells
pub mod OneFlag
pub mod FlagsTold
pub mod ReactionTold
pub mod MarksTold
pub mod Checked
