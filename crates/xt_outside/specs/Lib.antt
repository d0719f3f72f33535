pub mod Outside
pub mod Bundles
pub mod Links
pub mod Memory
pub mod MemoryLinks
pub mod MemoryDoors
pub mod Adapters
