pub mod distinct
pub mod Names
pub mod Rules
pub mod Table
