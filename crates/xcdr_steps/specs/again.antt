pub mod Passing
pub mod Peeking
pub mod Rereading
