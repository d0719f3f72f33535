pub mod Names
pub mod Written
pub mod Steps
pub mod Read
pub mod Order
pub mod Words
pub mod Indices
