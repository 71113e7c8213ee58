pub mod CycleLaws
pub mod TestLaws
pub mod ModelLaws
pub mod Laws
pub mod Sorted
