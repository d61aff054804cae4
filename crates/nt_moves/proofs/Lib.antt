pub mod MovedRows
pub mod MoveTold
pub mod MoveChanges
pub mod KeptMoves
pub mod MovesTold
pub mod CommandMoves
