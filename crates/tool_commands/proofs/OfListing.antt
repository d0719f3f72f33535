pub mod Listed
pub mod Lines
pub mod Pooled
