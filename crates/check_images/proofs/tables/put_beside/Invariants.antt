use Rattle.std.proofs.Common.{◌≡◌, ◌∷◌, map}
use Rattle.check_images.proofs.tables.put_beside.Given as goal

abbrev pub invariant-loop-entry : goal.invariant-loop-entry
invariant-loop-entry l = l.whole.items ≡ map (λ p. (p.0.0, p.0.1 ∷ p.1.1)) l.yielded
