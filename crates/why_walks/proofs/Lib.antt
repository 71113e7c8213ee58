pub mod Scanned
pub mod Walking
pub mod Meant
pub mod First
