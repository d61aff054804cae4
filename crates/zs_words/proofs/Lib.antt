pub mod IdLemmas
pub mod ListLemmas
pub mod Meanings
pub mod NumberLemmas
pub mod StreamRefLemmas
pub mod TextLemmas
