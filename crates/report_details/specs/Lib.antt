pub mod Reported
pub mod Groups
pub mod Marks
pub mod States
pub mod Names
pub mod Figures
pub mod StateTable
pub mod Details
