pub mod Scopes
pub mod Sets
pub mod Held
