pub mod Objects
pub mod Adding
pub mod Views
pub mod Held
pub mod Worked
pub mod Known
pub mod Definitions
