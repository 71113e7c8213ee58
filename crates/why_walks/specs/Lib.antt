pub mod Factors
pub mod Scanning
pub mod Walks
pub mod Values
pub mod Found
