pub mod Guesses
pub mod Nodes
pub mod Order
pub mod Places
pub mod Slots
pub mod Touched
