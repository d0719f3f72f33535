pub mod Notes
pub mod Lists
pub mod Members
pub mod Structures
pub mod Numbered
pub mod Unions
pub mod Views
pub mod LiteralNames
