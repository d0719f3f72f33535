pub mod Keys
pub mod Visits
pub mod Worked
