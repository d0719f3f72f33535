pub mod OfFrames
pub mod Bodies
pub mod Outcomes
