pub mod Joined
pub mod Layout
pub mod Letters
pub mod Names
pub mod TestValue
pub mod Parts
pub mod ModelValue
pub mod ModelValues
