pub mod Keepings
pub mod Pasts
