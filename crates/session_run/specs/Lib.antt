pub mod Sessions
pub mod Faults
pub mod Rows
pub mod Untold
pub mod Blamed
