pub mod Numbered
pub mod Lists
pub mod Counts
pub mod Refusing
