pub mod names
pub mod Classes
pub mod Numerals
pub mod Tables
pub mod Tokens
pub mod Worked
