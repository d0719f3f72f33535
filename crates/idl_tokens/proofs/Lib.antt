pub mod OfNames
pub mod Numbers
pub mod Blanks
