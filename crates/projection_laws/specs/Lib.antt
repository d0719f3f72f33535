pub mod Premises
pub mod Inside
