mod Adding
mod Meaning
pub mod Texts
