pub mod Heard
pub mod Pieces
pub mod Ended
pub mod Pooled
