pub mod Seen
pub mod Views
