pub mod Chains
pub mod DependencyLists
pub mod Law
pub mod Taints
