pub mod Replies
pub mod Walks
pub mod Worked
