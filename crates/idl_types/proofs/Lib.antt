pub mod Wholes
pub mod NameLoops
pub mod KeptMore
pub mod DeclaredAt
pub mod TypeSteps
pub mod Inhabited
