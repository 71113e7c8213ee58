pub mod Sums
pub mod Lemmas
