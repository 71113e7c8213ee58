pub mod Operands
pub mod Scanning
pub mod Labels
pub mod Inside
