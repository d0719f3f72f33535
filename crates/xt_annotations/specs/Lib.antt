pub mod Annotations
pub mod Parameters
pub mod Notes
pub mod Places
pub mod Members
pub mod Worked
