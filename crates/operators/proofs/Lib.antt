pub mod Fitting
pub mod Listed
pub mod Sweeping
