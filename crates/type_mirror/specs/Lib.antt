pub mod pairs
pub mod told
pub mod completes
pub mod Objects
pub mod Steps
