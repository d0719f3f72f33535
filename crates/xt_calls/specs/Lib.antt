pub mod Calls
pub mod Answering
pub mod Sets
pub mod Fronts
pub mod Opened
pub mod Laws
