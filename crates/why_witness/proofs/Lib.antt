pub mod Same
pub mod Explaining
pub mod OneReason
