pub mod OfClients
pub mod OfServing
pub mod Behind
pub mod Causes
