pub mod Streams
pub mod Recordings
pub mod Replays
pub mod Judged
pub mod Answers
pub mod Replaying
pub mod Laws
pub mod Worked
