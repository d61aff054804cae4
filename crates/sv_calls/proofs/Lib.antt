pub mod Going
pub mod Notices
