use Rattle.std.proofs.Common.{◌≡◌, ℕ, length}
use Rattle.entry_ref.specs.Maps.{seen}
use Rattle.mem_work.specs.Entries.{with_those}
use Rattle.mem_work.proofs.reach.add_those.Given as goal

abbrev pub invariant-loop-reference : goal.invariant-loop-reference
invariant-loop-reference l = (q : ℕ) → with_those l.rest.items (seen l.records) (seen l.map) q ≡ with_those l.fn.references.items (seen l.records) (seen l.fn.map) q

abbrev pub decreases-loop-reference : goal.decreases-loop-reference
decreases-loop-reference l = length l.rest.items
