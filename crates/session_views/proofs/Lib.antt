pub mod Counts
pub mod Cells
pub mod Opening
pub mod Settled
