pub mod Views
pub mod RowViews
pub mod Laws
