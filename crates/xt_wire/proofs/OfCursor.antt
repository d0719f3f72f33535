pub mod Ahead
pub mod Regions
pub mod Outcomes
