pub mod OfFront
pub mod OfOutput
pub mod Ended
pub mod Joined
pub mod Left
