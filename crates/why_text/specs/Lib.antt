pub mod Events
pub mod Findings
pub mod OfRuns
pub mod Origins
pub mod Reasons
