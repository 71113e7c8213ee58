pub mod Subjects
pub mod Records
pub mod Tab
pub mod Json
