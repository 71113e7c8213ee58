pub mod Walks
pub mod DomainLaw
pub mod ControlLoop
pub mod PairLists
pub mod LinkLists
