pub mod Answers
pub mod Known
pub mod Keeping
pub mod Cell
pub mod FromScratch
pub mod Laws
pub mod Suites
