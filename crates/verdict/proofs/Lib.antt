pub mod Evaluations
pub mod KeptLists
pub mod Spread
pub mod Uniqueness
