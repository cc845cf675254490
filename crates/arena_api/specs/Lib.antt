pub mod Works
pub mod Calls
pub mod Generations
