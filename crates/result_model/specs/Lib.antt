pub mod Values
pub mod Orders
pub mod Groups
pub mod Totals
pub mod Examples
