pub mod Faults
pub mod Criteria
pub mod Bytes
pub mod Floats
pub mod Limits
pub mod Tolerances
pub mod Examples
pub mod NearItself
