use Rattle.std.proofs.Common.{◌≡◌}
use Rattle.test_operations.proofs.run.take_turns.Given as goal

abbrev pub invariant-loop-turn : goal.invariant-loop-turn
invariant-loop-turn g l = record { same : l.attribute.fields ≡ l.fields; beside : l.plain.fields ≡ l.fields }
