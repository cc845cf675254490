pub mod Bits
pub mod Among
pub mod Pairs
pub mod Apart
pub mod Steps
