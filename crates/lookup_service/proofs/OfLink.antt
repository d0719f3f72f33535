pub mod Looping
