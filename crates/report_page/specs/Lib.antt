pub mod Summary
pub mod Table
pub mod Page
