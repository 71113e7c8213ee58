pub mod Named
pub mod Events
pub mod Settled
pub mod Both
pub mod Headline
