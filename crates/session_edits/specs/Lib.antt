pub mod Answer
pub mod Requests
pub mod Faults
pub mod Edits
