pub mod Applied
pub mod Parts
pub mod Filling
pub mod Lengths
