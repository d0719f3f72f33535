pub mod Appending
pub mod Counting
pub mod Digits
pub mod Values
pub mod Heads
