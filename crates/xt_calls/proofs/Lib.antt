pub mod Ties
pub mod Tops
pub mod Keyed
pub mod Texts
pub mod WithoutFloats
