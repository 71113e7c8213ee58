pub mod Laws
pub mod Answers
