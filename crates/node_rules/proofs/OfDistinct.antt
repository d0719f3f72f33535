pub mod InOrder
pub mod Appended
