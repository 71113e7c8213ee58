pub mod Comments
pub mod Counts
