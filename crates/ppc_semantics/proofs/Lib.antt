pub mod OfTest
pub mod Bounds
pub mod Rising
