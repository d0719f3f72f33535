pub mod ListReading
pub mod Payloads
pub mod ListSpelling
pub mod Reread
pub mod Limits
pub mod Long
