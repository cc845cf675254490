pub mod Standing
pub mod Steps
pub mod ProofsForStates
pub mod ProofsForMarks
pub mod ProofsForStore
