use Rattle.std.specs.Prelude.{IfSome}
use Rattle.test_kit.specs.Turns.{IsActive}
use Rattle.test_arena.proofs.torture.write.Given as goal

abbrev pub invariant-loop-number : goal.invariant-loop-number
invariant-loop-number g l = record { active : IfSome l.before (IsActive (g.W.Work.knows l.work)) }
