pub mod again
pub mod index
pub mod one
pub mod reading
pub mod scalars
pub mod two
