pub mod ByteLemmas
pub mod OrderLemmas
pub mod RecordLemmas
