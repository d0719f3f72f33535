pub mod nodes
pub mod Entries
pub mod Memos
pub mod Bound
