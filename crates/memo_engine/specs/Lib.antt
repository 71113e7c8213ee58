pub mod Clauses
pub mod Kept
pub mod Matched
pub mod Needs
pub mod Told
pub mod Unmarked
pub mod Waiting
