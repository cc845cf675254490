pub mod OneNode
pub mod ProofsForOneNode
pub mod Turns
