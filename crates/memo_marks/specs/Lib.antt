pub mod Marked
pub mod Users
