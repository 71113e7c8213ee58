pub mod Finals
pub mod Satisfying
