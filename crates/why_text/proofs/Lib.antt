pub mod Names
pub mod Replaying
pub mod RunEvents
pub mod RunThreads
pub mod Words
