pub mod Balancing
pub mod Digits
pub mod Escaping
pub mod Loops
pub mod Read
pub mod Said
