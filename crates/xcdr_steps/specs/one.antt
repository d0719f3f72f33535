pub mod Marks
pub mod Own
pub mod Parameters
pub mod Contents
