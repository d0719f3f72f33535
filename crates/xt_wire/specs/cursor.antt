pub mod Standing
pub mod Cuts
pub mod Decoding
pub mod Slices
pub mod Steps
pub mod Placing
pub mod Frames
pub mod Outcomes
