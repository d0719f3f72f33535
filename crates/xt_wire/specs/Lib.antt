pub mod cursor
pub mod numbers
pub mod streams
pub mod writer
