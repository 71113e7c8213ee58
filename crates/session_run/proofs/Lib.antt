pub mod Sessions
pub mod Edits
pub mod Viewers
