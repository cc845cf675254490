pub mod DocumentLemmas
pub mod MapLemmas
