pub mod Uses
pub mod Structures
pub mod Unions
pub mod Whole
pub mod Defined
