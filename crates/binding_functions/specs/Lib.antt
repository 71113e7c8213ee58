pub mod Templates
pub mod Parts
