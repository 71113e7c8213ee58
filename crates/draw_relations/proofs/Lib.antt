pub mod Bound
pub mod Coding
