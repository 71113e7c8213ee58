pub mod Drawn
pub mod Judges
pub mod Known
pub mod Pages
pub mod Scripts
pub mod Whole
