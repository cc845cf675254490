pub mod References
pub mod Records
pub mod Images
pub mod Places
pub mod Maps
pub mod Before
