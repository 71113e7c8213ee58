pub mod Restarted
pub mod Readers
pub mod Texts
