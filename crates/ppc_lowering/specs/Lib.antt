pub mod Domain
pub mod Lowering
pub mod Numbers
