pub mod Alike
pub mod Comparing
pub mod Spaces
