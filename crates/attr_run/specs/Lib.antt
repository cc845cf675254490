pub mod Run
pub mod Settings
pub mod Refusals
pub mod Texts
pub mod Answers
pub mod Steps
pub mod Made
pub mod Laws
