pub mod front
pub mod output
pub mod Commands
pub mod Leaving
pub mod Stopping
