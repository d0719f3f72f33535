pub mod Rounds
pub mod FrameFaults
pub mod Pushes
pub mod Tells
pub mod ByReplies
pub mod Laws
pub mod Worked
