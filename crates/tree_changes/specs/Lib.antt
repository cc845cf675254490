pub mod Merges
pub mod Layers
pub mod Counts
