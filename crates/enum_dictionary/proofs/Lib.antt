pub mod DictionaryLemmas
pub mod BehindLemmas
pub mod MapLemmas
pub mod FindLemmas
