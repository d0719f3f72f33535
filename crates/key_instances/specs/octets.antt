pub mod Chains
pub mod Ends
pub mod Laws
pub mod Orders
