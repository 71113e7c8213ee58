pub mod Values
pub mod Witnesses
pub mod Refusals
pub mod Pairs
pub mod Pending
