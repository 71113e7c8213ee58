-- Lemmas that the impls of src/ cite. No contract cites what is defined here.
pub mod CellProofs
pub mod Laws
pub mod Touched
