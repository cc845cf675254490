use Rattle.std.proofs.Common.{◌≡◌, [], replicate}
use Rattle.entry_ledger.specs.ShelvesKept.{StackView}
use Rattle.entry_ledger.proofs.shelves.new_stacks.Given as goal

abbrev pub invariant-loop-made : goal.invariant-loop-made
invariant-loop-made l = (let new : StackView = record { list = []; room = l.room } in l.stacks.items ≡ replicate l.made new)
