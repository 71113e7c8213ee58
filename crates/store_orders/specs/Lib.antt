pub mod Combinations
pub mod Events
pub mod Lists
pub mod OrderPrefixes
pub mod Orders
pub mod Rows
