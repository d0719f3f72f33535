pub mod Appending
pub mod Params
