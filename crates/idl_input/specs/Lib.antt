pub mod Input
pub mod Cursor
pub mod Words
pub mod FaultTexts
