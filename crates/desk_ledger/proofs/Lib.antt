pub mod AllPosted
pub mod Appending
pub mod Editing
pub mod Growing
pub mod Outcomes
