pub mod Floats
pub mod Walks
pub mod Bits
pub mod Texts
pub mod Forms
pub mod Kinds
pub mod Places
pub mod Laws
