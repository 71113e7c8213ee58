pub mod Cells
pub mod Columns
pub mod Differences
pub mod Log
