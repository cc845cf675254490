use Rattle.std.proofs.Common.{◌≡◌, ◌++◌, [], map, take}
use Rattle.attr_run.proofs.make.with_empty.Given as goal

abbrev pub invariant-loop : goal.invariant-loop
invariant-loop l = l.all ≡ l.fn.items ++ map (λ _. []) (take l.index l.others)
