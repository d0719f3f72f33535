pub mod OfSizes
pub mod Views
pub mod Shapes
pub mod Steps
pub mod SameIds
pub mod Labels
