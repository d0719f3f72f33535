pub mod Premises
pub mod Soundness
pub mod RoundTrips
pub mod Readings
pub mod Verdicts
pub mod KeyLaws
