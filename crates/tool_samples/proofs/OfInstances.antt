pub mod Kept
pub mod Lined
pub mod Turned
