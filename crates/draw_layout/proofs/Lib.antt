pub mod Walks
pub mod Counting
pub mod Orders
pub mod Places
