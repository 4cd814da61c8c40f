pub mod Zeros
pub mod Marks
pub mod Steps
pub mod Listings
pub mod Finds
pub mod Floods
pub mod Sheets
pub mod Examples
