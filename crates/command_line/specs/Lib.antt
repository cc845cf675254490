pub mod Also
pub mod CommandLine
pub mod Found
pub mod Reading
pub mod Settings
