pub mod Seeing
pub mod Belonging
pub mod Relating
pub mod Meant
pub mod Naming
