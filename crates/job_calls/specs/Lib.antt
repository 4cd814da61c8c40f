pub mod Reading
pub mod Stops
pub mod Made
pub mod Lines
pub mod Calling
pub mod Prints
pub mod Ends
pub mod Laws
