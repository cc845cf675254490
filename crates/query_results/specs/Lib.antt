pub mod Walks
pub mod Attributes
pub mod Ranks
pub mod Runs
pub mod Longs
pub mod Dictionaries
pub mod ProofsForLists
