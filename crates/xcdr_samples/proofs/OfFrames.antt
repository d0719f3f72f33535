pub mod Bodies
pub mod Samples
