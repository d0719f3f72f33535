pub mod MarkSteps
pub mod ContentSteps
pub mod ParameterSteps
