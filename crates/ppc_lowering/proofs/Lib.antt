pub mod Sorting
pub mod Starting
