pub mod Bytes
pub mod InPlace
pub mod Separated
pub mod Arguments
