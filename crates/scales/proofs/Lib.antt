pub mod Lattices
pub mod Examples
