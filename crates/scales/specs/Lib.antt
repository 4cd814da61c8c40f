pub mod Scales
pub mod Grey
pub mod Relief
pub mod Phases
pub mod Examples
pub mod Marks
