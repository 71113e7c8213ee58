pub mod Cells
pub mod Rows
pub mod Questions
pub mod Sessions
