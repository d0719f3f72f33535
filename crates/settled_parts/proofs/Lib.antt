pub mod PartSteps
pub mod LiteralSteps
