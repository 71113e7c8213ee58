pub mod Sound
pub mod Among
pub mod Telling
pub mod Counting
pub mod Ordering
pub mod Keeping
pub mod Flagging
pub mod Saying
