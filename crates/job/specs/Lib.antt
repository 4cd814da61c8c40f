pub mod Reading
pub mod Progress
pub mod Lines
pub mod Texts
pub mod Jobs
