pub mod ShardLists
