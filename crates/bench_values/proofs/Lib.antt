pub mod Emptied
pub mod Counting
pub mod Finding
pub mod Making
pub mod Outputs
pub mod OneVerdict
pub mod PartTests
