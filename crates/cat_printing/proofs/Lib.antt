pub mod Applied
pub mod Separated
