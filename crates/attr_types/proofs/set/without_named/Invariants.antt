use Rattle.std.proofs.Common.{◌≡◌, take}
use Rattle.attr_types.specs.Change.{without_values}
use Rattle.attr_types.proofs.set.without_named.Given as goal

abbrev pub invariant-loop-item : goal.invariant-loop-item
invariant-loop-item l = l.kept ≡ without_values (take l.item-index l.items) l.fn.names
