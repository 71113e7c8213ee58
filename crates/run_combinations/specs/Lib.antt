pub mod Candidates
pub mod Keys
pub mod Layouts
pub mod Parts
pub mod Prefixes
pub mod Rounds
pub mod Search
pub mod ReadChoices
