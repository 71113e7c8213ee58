pub mod Laws
pub mod Readings
pub mod Alignment
pub mod SliceLaws
