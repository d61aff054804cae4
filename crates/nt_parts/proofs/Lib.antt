pub mod EachMore
pub mod SeenReceipts
