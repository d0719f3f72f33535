pub mod SizeSteps
pub mod ParamSteps
pub mod Steady
pub mod Counts
pub mod Chains
pub mod SampleSteps
pub mod Joining
