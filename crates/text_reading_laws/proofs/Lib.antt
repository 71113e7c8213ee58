pub mod Lists
pub mod LitmusFaults
pub mod LaterFaults
pub mod CatRuns
pub mod CatFaults
pub mod Faults
pub mod Meanings
