pub mod Adding
pub mod Arrays
pub mod Roots
