pub mod Again
pub mod Behind
pub mod Cuts
pub mod Named
pub mod Printed
pub mod PrintedTrees
pub mod Unique
