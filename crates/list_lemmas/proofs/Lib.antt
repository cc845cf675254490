pub mod Each
pub mod Places
pub mod Pairs
pub mod Tests
pub mod Counts
pub mod Errors
pub mod Options
