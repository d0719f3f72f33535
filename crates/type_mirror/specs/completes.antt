pub mod Peers
pub mod Laws
pub mod Worked
