pub mod PlaceLemmas
pub mod NextLemmas
pub mod BlockLemmas
pub mod ListLemmas
pub mod OrderLemmas
pub mod StageLemmas
pub mod CountLemmas
