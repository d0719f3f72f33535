pub mod NumberSteps
pub mod Puts
