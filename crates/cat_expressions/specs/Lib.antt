pub mod OpenReading
pub mod Reading
