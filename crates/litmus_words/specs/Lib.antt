pub mod Machine
pub mod Taking
pub mod Words
