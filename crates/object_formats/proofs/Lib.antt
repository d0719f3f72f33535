pub mod Lawful
pub mod Combined
pub mod Texts
pub mod Tables
pub mod Whole
pub mod Views
pub mod OwnKinds
pub mod Good
