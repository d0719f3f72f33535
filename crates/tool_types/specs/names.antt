pub mod Names
pub mod Meanings
pub mod Identified
