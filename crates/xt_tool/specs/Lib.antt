pub mod Output
pub mod Statuses
pub mod Headline
pub mod Leaving
pub mod Completeness
pub mod Nets
