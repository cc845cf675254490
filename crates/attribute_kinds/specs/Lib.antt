pub mod Counts
pub mod Views
pub mod Calls
pub mod Standing
pub mod Refusals
pub mod Compacting
pub mod GivingUp
