pub mod Firsts
pub mod Nearness
pub mod Figures
pub mod Answering
