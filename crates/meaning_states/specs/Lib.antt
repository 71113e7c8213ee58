pub mod Flags
pub mod Kept
pub mod Listed
pub mod ByName
pub mod States
pub mod Texts
