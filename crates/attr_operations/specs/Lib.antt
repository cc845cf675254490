pub mod Counts
pub mod Widths
pub mod Views
pub mod Fields
pub mod Calls
pub mod Steps
pub mod Commits
