pub mod Candidate
pub mod Events
pub mod Known
pub mod Names
pub mod Orders
