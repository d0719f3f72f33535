pub mod Headlines
pub mod Tops
pub mod NetEnds
pub mod Depths
pub mod Complete
