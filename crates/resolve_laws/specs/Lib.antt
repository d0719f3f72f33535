pub mod parsed
pub mod Named
pub mod Laws
