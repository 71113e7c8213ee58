pub mod Seen
pub mod Members
pub mod Related
pub mod Named
