pub mod Slots
pub mod Places
pub mod Runs
pub mod Flushing
