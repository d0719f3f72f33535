pub mod InBlocks
pub mod Repeats
