pub mod Statuses
pub mod Ledgers
pub mod Units
pub mod Calls
pub mod Parts
pub mod Victims
pub mod Usages
pub mod Flows
