pub mod Evaluating
pub mod Orders
pub mod Refusing
pub mod Passing
pub mod Spaces
