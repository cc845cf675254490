use Rattle.std.specs.Prelude.{IfSome}
use Rattle.test_kit.specs.Turns.{IsActive}
use Rattle.test_arena.proofs.torture.place.Given as goal

abbrev pub invariant-loop-wait : goal.invariant-loop-wait
invariant-loop-wait g l = record { active : IfSome l.fn.before (IsActive (g.W.Work.knows l.work)) }
