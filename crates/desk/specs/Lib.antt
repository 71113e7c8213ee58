pub mod Exchanges
pub mod Held
pub mod Numbers
pub mod Rows
pub mod Runs
