mod Told
pub mod Scopes
pub mod Leaves
pub mod Bodies
pub mod Models
