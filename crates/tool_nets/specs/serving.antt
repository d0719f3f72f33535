pub mod Lines
pub mod Registering
pub mod Seats
pub mod Serving
