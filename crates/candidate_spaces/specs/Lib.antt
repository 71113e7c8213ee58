pub mod Faults
pub mod Same
pub mod Space
