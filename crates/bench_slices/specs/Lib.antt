pub mod Slices
pub mod Reach
