use Rattle.std.proofs.Common.{◌≡◌}
use Rattle.test_compaction.proofs.steps.load_all.Given as goal

abbrev pub invariant-loop-number : goal.invariant-loop-number
invariant-loop-number g l = record { same : l.attribute.fields ≡ l.fields }
