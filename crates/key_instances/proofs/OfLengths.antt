-- that types of keys are flat
pub mod Flat
-- no key is longer than is told
pub mod Bounded
-- the longest value, and where its key ends
pub mod Longest
pub mod Reached
-- of top types
pub mod Keys
