pub mod Words
pub mod Uses
pub mod Parts
pub mod Lines
pub mod Worked
