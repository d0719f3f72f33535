pub mod messages
pub mod Frames
pub mod Causes
pub mod Worked
pub mod Sequences
