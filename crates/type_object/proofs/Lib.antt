pub mod OfVisits
pub mod Founds
pub mod Noted
pub mod Added
pub mod Pooled
pub mod HashKinds
