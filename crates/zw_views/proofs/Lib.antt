pub mod NestedLemmas
pub mod ViewLemmas
pub mod ViewsCohere
pub mod RowChanges
pub mod TablesFollow
pub mod ViewsCompare
