pub mod Faults
pub mod Records
pub mod Reading
pub mod Bounds
pub mod Encoding
pub mod Criterion
pub mod Jobs
