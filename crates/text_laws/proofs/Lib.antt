pub mod Nesting
pub mod Runs
