pub mod Results
pub mod Reports
pub mod Evaluations
pub mod Added
