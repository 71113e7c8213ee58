pub mod Executions
pub mod Kinds
