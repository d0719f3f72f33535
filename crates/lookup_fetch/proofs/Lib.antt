pub mod Reaching
pub mod Planning
pub mod Asking
pub mod TakingIn
pub mod Exchanging
pub mod Going
pub mod Rounding
