pub mod Exchanging
pub mod Numbering
pub mod Reaching
pub mod Refusing
pub mod Returning
