pub mod OfMessages
pub mod Taking
pub mod Fronts
pub mod Following
pub mod Streams
pub mod Reframed
pub mod Sequences
