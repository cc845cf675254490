-- A lemma on nodes made, for the crates above.
pub use Rattle.frozen_nodes.proofs.MakesLemmas.{counts-none}
