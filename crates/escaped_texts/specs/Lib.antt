pub mod Balanced
pub mod Elements
pub mod Escaped
pub mod Fields
pub mod Reading
pub mod Strings
