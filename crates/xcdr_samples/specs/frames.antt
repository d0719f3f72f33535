pub mod Heads
pub mod Frames
