pub mod Questions
pub mod Judged
pub mod Beside
