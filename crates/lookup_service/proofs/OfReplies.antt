pub mod Walking
pub mod Getting
pub mod Putting
pub mod Framed
pub mod Listing
