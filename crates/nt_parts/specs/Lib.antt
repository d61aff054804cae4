pub mod UserCells
