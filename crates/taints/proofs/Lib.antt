pub mod Agreement
pub mod Cleaning
pub mod Inversion
pub mod PairDecision
pub mod ReachLoop
pub mod TaintSteps
