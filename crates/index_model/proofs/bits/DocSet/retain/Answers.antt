use Rattle.std.proofs.Common.{◌≤◌, ◌&&◌, ℕ, ap, subst, sym, ◌∙◌}
use Rattle.index_model.proofs.bits.DocSet.retain.Goals as goal
use Rattle.index_model.specs.Sets.{in_words}

pub invariant_of-self : goal.invariant_of-self
invariant_of-self c = (
  subst (λ (n : ℕ). n ≤ 16384) (sym c.keep_bits.ensures.size) c.self.invariant.0,
  c.keep_bits.ensures.bits 0 ∙ ap (λ b. b && in_words c.as_slice.result.now 0) c.self.invariant.1,
)
