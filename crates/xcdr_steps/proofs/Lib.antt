pub mod OfAgain
pub mod OfOne
pub mod OfReading
pub mod OfScalars
pub mod OfTwo
