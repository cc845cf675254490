pub mod ClassLemmas
pub mod ArrayLemmas
pub mod AddLemmas
pub mod RootLemmas
