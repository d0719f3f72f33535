pub mod OfNotes
pub mod Keyed
pub mod Trails
pub mod Consistency
pub mod Passing
