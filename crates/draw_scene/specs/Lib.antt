pub mod Lines
pub mod Scene
pub mod Drawn
pub mod Laws
