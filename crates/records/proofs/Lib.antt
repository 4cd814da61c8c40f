pub mod Checking
pub mod Encodings
pub mod Heads
pub mod Cuts
