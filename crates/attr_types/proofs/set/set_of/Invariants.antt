use Rattle.std.proofs.Common.{◌≡◌, take}
use Rattle.std.specs.BTreeSet.{contains}
use Rattle.attr_types.specs.Change.{is_named}
use Rattle.attr_types.specs.Value.{value_cmp}
use Rattle.attr_types.specs.declared.items.Item.{Item}
use Rattle.attr_types.proofs.set.set_of.Given as goal

abbrev pub invariant-loop-name : goal.invariant-loop-name
invariant-loop-name l = (item : Item) → contains value_cmp l.set item.value ≡ is_named (take l.name-index l.names) item
