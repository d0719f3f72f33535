pub mod Resolving
pub mod Walking
pub mod Worked
pub mod Laws
