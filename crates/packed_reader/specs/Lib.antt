pub mod View
pub mod Spots
pub mod Reads
pub mod Unions
pub mod Pieces
pub mod Bodies
pub mod Plain
