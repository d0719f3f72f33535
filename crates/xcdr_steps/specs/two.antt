pub mod Bounds
pub mod Headers
