pub mod Meant
pub mod Parts
pub mod Edited
pub mod Histories
