pub mod Solved
pub mod Jobs
pub mod Listed
pub mod CellRuns
pub mod SameEvents
