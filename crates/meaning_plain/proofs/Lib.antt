pub mod Growing
pub mod Loops
pub mod Operators
pub mod Paths
