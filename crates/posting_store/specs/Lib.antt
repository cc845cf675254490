pub mod Lists
pub mod ProofsForLists
pub mod Changes
pub mod Walks
pub mod Laws
pub mod Keeps
pub mod Moves
