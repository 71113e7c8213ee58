pub mod Machine
pub mod Runs
pub mod LineByLine
pub mod AllRuns
pub mod ValueSet
pub mod FreeRuns
pub mod FreeWalks
pub mod LocationValues
