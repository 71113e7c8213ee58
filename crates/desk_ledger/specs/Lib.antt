pub mod Boards
pub mod Edited
pub mod Posts
pub mod Told
