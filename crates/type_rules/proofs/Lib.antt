pub mod OfFaultless
pub mod FaultSteps
pub mod FaultLoops
pub mod DeepSteps
pub mod Kept
