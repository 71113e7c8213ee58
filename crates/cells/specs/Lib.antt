pub mod Cells
pub mod Views
pub mod Events
pub mod Stages
pub mod CellLaws
