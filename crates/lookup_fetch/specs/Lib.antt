pub mod Rounds
pub mod Plans
pub mod Taking
pub mod FrameFaults
pub mod Fetches
pub mod Steps
pub mod Worked
