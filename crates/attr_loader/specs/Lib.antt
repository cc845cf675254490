pub mod Room
pub mod Attributes
pub mod Refusals
pub mod Loading
pub mod Batches
pub mod Runs
pub mod Made
pub mod Laws
