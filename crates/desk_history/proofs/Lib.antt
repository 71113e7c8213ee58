pub mod Fronts
pub mod Adding
pub mod Showing
pub mod Cases
