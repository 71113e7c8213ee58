pub mod Labels
pub mod Loops
pub mod Merging
pub mod Widths
