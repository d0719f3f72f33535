pub mod Failing
pub mod Heads
pub mod MarkSteps
pub mod PlaceSteps
