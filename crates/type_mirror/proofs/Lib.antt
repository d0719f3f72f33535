pub mod OfCompletes
pub mod OfPairs
pub mod OfTold
pub mod Going
pub mod Requesting
pub mod Settling
pub mod Pushable
