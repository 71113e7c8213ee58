pub mod Closed
pub mod Kinds
pub mod Roles
pub mod Slots
pub mod Tables
