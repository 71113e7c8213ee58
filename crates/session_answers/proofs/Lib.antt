pub mod Named
pub mod Joined
