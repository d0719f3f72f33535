pub mod clients
pub mod serving
pub mod Nets
pub mod Opened
