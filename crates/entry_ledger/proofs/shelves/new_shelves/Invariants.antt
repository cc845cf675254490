use Rattle.std.proofs.Common.{◌≡◌, replicate}
use Rattle.entry_ledger.specs.States.{empty_shelf}
use Rattle.entry_ledger.proofs.shelves.new_shelves.Given as goal

abbrev pub invariant-loop-made : goal.invariant-loop-made
invariant-loop-made l = l.shelves.items ≡ replicate l.made empty_shelf
