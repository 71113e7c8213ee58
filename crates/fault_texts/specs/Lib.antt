pub mod Found
pub mod Lines
pub mod Positions
pub mod Search
pub mod Signs
pub mod Told
pub mod Words
