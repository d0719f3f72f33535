pub mod UnitSteps
pub mod Orders
pub mod SignSteps
