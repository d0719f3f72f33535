pub mod names
pub mod Types
pub mod Declaring
pub mod Coming
