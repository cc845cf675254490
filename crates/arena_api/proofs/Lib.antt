pub mod Free
pub mod Padded
pub mod Reached
