pub mod HoldLemmas
pub mod WalkLemmas
