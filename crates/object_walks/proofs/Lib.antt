pub mod Ended
pub mod Short
pub mod Eached
pub mod Walked
pub mod Resolved
pub mod Freely
