pub mod Bounds
pub mod Checks
pub mod Grammar
pub mod Late
pub mod Laws
pub mod Reading
