pub mod RunLemmas
pub mod HeldLemmas
