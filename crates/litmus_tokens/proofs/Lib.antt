pub mod Turns
pub mod Beginnings
pub mod Branches
pub mod Complete
pub mod Finishes
pub mod Places
pub mod Sound
pub mod Stack
