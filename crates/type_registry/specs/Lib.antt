pub mod notes
pub mod Keys
pub mod Held
pub mod Walked
pub mod Found
pub mod Passed
pub mod Registered
pub mod Weak
