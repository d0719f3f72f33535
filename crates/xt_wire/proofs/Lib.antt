pub mod OfCursor
pub mod OfNumbers
pub mod OfSeen
pub mod OfStreams
pub mod OfWriter
