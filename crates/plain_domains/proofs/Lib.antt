pub mod Storing
pub mod Rounds
