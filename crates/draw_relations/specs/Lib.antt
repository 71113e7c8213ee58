pub mod Shown
pub mod Values
