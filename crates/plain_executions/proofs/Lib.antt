pub mod Indexing
pub mod Pairing
pub mod Depending
pub mod Ordering
pub mod Sources
pub mod Executing
