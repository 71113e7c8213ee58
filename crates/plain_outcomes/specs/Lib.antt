pub mod Answered
pub mod States
pub mod Kept
pub mod Outcomes
