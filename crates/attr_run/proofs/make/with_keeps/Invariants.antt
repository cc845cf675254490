use Rattle.std.proofs.Common.{◌≡◌, ◌++◌, map, take}
use Rattle.attr_types.specs.declared.change.Change.TheVariants.{Keep}
use Rattle.attr_run.proofs.make.with_keeps.Given as goal

abbrev pub invariant-loop : goal.invariant-loop
invariant-loop l = l.all ≡ l.fn.changes ++ map (λ _. Keep) (take l.index l.others)
