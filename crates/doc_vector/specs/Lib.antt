pub mod Documents
pub mod Laws
