-- Lemmas that the impls of src/ cite. No contract cites what is defined here.
pub mod CellProofs
pub mod Commits
pub mod Laws
pub mod LeftCells
pub mod StampedLaws
pub mod Listing
pub mod Touched
