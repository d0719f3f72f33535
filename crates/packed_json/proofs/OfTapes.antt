pub mod Leaves
pub mod Lists
pub mod Runs
pub mod Slots
pub mod Whole
