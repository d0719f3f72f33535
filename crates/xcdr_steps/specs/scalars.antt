pub mod Scalars
pub mod Texts
