pub mod Compared
pub mod Shaped
pub mod Typed
