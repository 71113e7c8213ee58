pub mod Counting
pub mod Filters
pub mod Flat
pub mod OrderLaws
pub mod OrderPrefixLaws
pub mod Pairs
pub mod Rows
pub mod Stores
