pub mod Scanned
pub mod Earlier
pub mod Found
