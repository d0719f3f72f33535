pub mod Among
pub mod Reversed
pub mod Left
