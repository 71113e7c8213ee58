pub mod Values
pub mod Scopes
pub mod Groups
pub mod Items
pub mod Answers
