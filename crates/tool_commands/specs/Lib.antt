pub mod recordings
pub mod listing
pub mod Commands
pub mod Wrapping
pub mod Making
pub mod Comparing
