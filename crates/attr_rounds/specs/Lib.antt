pub mod Rounds
pub mod Posts
pub mod Lines
pub mod Saves
