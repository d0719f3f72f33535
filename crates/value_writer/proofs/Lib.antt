pub mod Parts
pub mod Blocks
pub mod Ends
pub mod RunSteps
