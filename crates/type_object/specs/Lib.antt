pub mod visits
pub mod Names
pub mod Pools
pub mod References
pub mod Entries
pub mod Faults
pub mod Worked
