pub mod ProofsForKeys
pub mod Dictionaries
pub mod Laws
