pub mod Expanding
pub mod Keeping
