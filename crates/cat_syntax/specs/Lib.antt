pub mod Faults
pub mod ParserState
pub mod ReadingItems
pub mod ReadingTexts
