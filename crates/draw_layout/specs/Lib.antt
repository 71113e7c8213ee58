pub mod Ends
pub mod Layout
