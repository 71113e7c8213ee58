pub mod Executions
pub mod Laws
pub mod Listed
pub mod Parts
pub mod TestSpaces
