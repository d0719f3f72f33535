pub mod OfNodes
pub mod SameKeys
pub mod Kept
pub mod Reaching
pub mod Bound
