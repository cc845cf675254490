pub mod Run
pub mod Report
pub mod History
pub mod Laws
