pub mod Ends
pub mod Beside
pub mod Same
pub mod Fitting
pub mod Paired
pub mod Few
pub mod Verdicts
