pub mod Cursors
pub mod Marks
pub mod Streams
