use Rattle.std.proofs.Common.{◌≡◌}
use Rattle.test_operations.proofs.run.plain_after.Given as goal

abbrev pub invariant-loop-turn : goal.invariant-loop-turn
invariant-loop-turn l = record { same : l.plain.fields ≡ l.fields }
