pub mod Below
pub mod Finding
pub mod Grown
pub mod Own
pub mod Placing
pub mod Signing
pub mod Spread
