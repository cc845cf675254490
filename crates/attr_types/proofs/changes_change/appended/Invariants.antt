use Rattle.std.proofs.Common.{◌≡◌, ◌++◌, take}
use Rattle.attr_types.proofs.changes_change.appended.Given as goal

abbrev pub invariant-loop-item : goal.invariant-loop-item
invariant-loop-item l = l.joined ≡ l.items ++ take l.item-index l.more
