pub mod Modes
pub mod Comings
pub mod Parts
pub mod Blocks
pub mod Members
pub mod Insides
pub mod Bodies
