pub mod Calls
pub mod Commands
pub mod Lines
pub mod Reading
pub mod Requests
pub mod Rules
pub mod Words
pub mod Written
