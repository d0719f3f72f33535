pub mod OfReplies
pub mod OfChains
pub mod OfLink
pub mod OfWorkers
pub mod Going
