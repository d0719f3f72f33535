pub mod MaskSteps
pub mod ScalarSteps
pub mod TextSteps
