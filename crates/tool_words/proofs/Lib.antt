pub mod Valued
pub mod Settled
pub mod Known
