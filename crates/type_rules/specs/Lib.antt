pub mod faultless
pub mod Places
pub mod Valid
pub mod Faults
pub mod Laws
pub mod Worked
