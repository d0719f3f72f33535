pub mod Mapped
pub mod OfKept
pub mod OfLengths
pub mod OfOctets
pub mod Places
pub mod Puts
pub mod Readings
pub mod Within
