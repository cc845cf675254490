use Rattle.std.proofs.Common.{◌≡◌, ◌++◌, ◌-◌}
use Rattle.attr_run.specs.Made.{made_from}
use Rattle.attr_run.proofs.make.make_ops.Given as goal

-- the operations so far, and those of the draws after the last one, are all
abbrev pub invariant-loop : goal.invariant-loop
invariant-loop l =
    l.ops ++ made_from (l.count - l.counter) l.draw l.fields ≡ made_from l.fn.count l.fn.seed l.fn.fields
