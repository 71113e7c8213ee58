pub mod Grammar
pub mod ItemMachine
pub mod Machine
pub mod Reads
pub mod Running
