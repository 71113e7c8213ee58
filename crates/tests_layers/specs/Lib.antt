pub mod Rows
pub mod Sheet
pub mod SheetCells
pub mod Lemmas
