pub mod Givens
pub mod Laws
pub mod Makes
pub mod Parts
pub mod Spaces
pub mod Values
pub mod Views
pub mod Lemmas
