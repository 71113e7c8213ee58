pub mod Choices
pub mod Combinations
pub mod Events
pub mod Reaching
pub mod Slots
