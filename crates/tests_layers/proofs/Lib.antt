pub mod RowLists
