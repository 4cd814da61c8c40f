pub mod Jobs
pub mod Readings
