pub mod Guessing
pub mod Laws
pub mod Lists
pub mod Lookups
pub mod Touching
pub mod UserLists
