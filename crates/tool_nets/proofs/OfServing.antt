pub mod Allowed
pub mod Entered
pub mod Reversed
pub mod Seated
pub mod Told
pub mod Worked
