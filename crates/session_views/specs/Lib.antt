pub mod Knowing
pub mod Shown
pub mod Asked
pub mod Waiting
pub mod Progress
