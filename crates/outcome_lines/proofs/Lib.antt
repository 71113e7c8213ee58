pub mod Parts
pub mod Conditions
