pub mod parsed
pub mod Printable
pub mod Laws
pub mod Worked
