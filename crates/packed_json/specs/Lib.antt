pub mod Lists
pub mod Plans
pub mod Rows
pub mod Tapes
