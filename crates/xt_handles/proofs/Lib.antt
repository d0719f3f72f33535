pub mod OfBoxes
pub mod TypesValues
pub mod ReaderValues
pub mod Crosses
