pub mod Counting
pub mod Freeing
pub mod Listing
pub mod Mapping
pub mod Placing
pub mod Running
