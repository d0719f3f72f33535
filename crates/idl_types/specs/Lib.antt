pub mod State
pub mod Uses
pub mod Definitions
pub mod Kept
pub mod Names
pub mod Inhabited
pub mod Views
pub mod Types
