pub mod Tallies
pub mod Turns
