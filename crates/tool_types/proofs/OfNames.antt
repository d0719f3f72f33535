pub mod Soundness
pub mod Identified
pub mod Places
