pub mod OfDistinct
pub mod Scopes
pub mod Mapped
pub mod Limits
pub mod Ranges
pub mod Labelled
pub mod Members
pub mod ListTests
