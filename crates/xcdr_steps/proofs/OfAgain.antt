pub mod Back
pub mod Passed
pub mod Unheld
