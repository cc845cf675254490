pub mod Places
pub mod Laws
pub mod PhaseKeys
pub mod KeysLaws
pub mod Counts
pub mod CountsLaws
