pub mod Told
pub mod Weights
pub mod Keys
pub mod Refutations
pub mod Slots
