pub mod Execution
pub mod Bounds
pub mod Control
pub mod Dependencies
