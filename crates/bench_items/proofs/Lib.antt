pub mod Naming
pub mod Sharing
pub mod Shaped
