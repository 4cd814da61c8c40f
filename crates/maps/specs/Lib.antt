pub mod Checks
pub mod Joinings
pub mod Tiles
pub mod Windows
pub mod Grounds
pub mod Admission
