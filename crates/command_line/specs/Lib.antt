pub mod Options
pub mod Words
pub mod Forms
pub mod Statuses
