pub mod Evaluated
pub mod Judgement
pub mod Laws
