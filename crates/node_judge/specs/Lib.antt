pub mod Marks
pub mod Bare
pub mod AtNode
pub mod Objects
