pub mod Results
pub mod Evaluations
