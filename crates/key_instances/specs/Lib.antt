pub mod kept
pub mod octets
pub mod Caches
pub mod Held
