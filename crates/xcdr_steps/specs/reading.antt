pub mod Cases
pub mod Indices
pub mod Counts
pub mod Headings
