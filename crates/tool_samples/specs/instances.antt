pub mod Instancing
pub mod Keeping
pub mod Holding
pub mod Laws
