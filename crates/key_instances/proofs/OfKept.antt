pub mod Keys
pub mod Lasts
pub mod Steps
