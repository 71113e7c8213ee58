pub mod Rows
pub mod Spaces
