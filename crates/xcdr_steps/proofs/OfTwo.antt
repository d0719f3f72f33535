pub mod HeaderSteps
