pub mod Chaining
pub mod Choosing
pub mod Combining
pub mod Depending
pub mod Doing
pub mod Picking
pub mod Standing
