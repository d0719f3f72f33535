pub mod Probes
pub mod Cells
pub mod Finds
pub mod Theorem
pub mod Worked
