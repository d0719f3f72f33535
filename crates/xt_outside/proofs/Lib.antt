pub mod Giving
pub mod Doors
pub mod Examples
pub mod Joined
