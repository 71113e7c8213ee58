pub mod Broken
pub mod Calls
pub mod Prefixes
pub mod Joined
pub mod Parted
pub mod Steps
