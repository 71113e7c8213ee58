pub mod Shapes
pub mod Stacks
