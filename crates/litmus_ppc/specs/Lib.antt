pub mod InitReading
pub mod PartReading
pub mod Faults
pub mod TextReading
