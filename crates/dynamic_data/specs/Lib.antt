pub mod Reach
pub mod Laws
pub mod Worked
pub mod Faithful
pub mod numbers
