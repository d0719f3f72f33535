pub mod OfRecordings
pub mod OfListing
pub mod Wrapped
pub mod Quiet
pub mod Told
