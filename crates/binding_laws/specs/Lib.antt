pub mod ItemLaws
pub mod Reread
