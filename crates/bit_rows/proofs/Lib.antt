pub mod Bits
pub mod Closing
pub mod Columns
pub mod EightWords
pub mod Paths
pub mod Registers
pub mod Wide
pub mod Writing
