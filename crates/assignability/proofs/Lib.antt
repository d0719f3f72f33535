pub mod Pairs
pub mod YesSteps
pub mod Heads
pub mod KeySteps
pub mod FailureSteps
