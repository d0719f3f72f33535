pub mod Recording
pub mod Replaying
pub mod Stopping
