pub mod Marks
pub mod Standings
pub mod Streaming
