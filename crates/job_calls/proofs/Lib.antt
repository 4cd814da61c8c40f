pub mod Tiles
pub mod Calling
pub mod Seats
pub mod Ending
pub mod Cuts
pub mod Outcomes
pub mod Once
