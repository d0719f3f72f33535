pub mod boxes
pub mod TypesHeld
pub mod ReaderHeld
pub mod Handled
