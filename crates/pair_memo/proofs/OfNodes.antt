pub mod Seeing
pub mod Levels
pub mod Heads
pub mod Among
pub mod Resolved
