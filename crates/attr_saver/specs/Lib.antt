pub mod Answers
pub mod Bytes
pub mod Fields
pub mod Images
pub mod Lawful
pub mod Laws
pub mod Stored
