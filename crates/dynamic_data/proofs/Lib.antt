pub mod BackLeaves
mod BackRows
pub mod BackMembers
mod Back
mod NamesFit
mod NameTexts
pub mod NamesApart
mod Results
pub mod Yields
pub mod TypedLeaves
pub mod Typed
mod Reaching
pub mod OfNumbers
