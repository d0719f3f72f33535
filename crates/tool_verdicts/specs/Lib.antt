pub mod Verdicts
pub mod Versions
pub mod Reports
pub mod Worked
