use Rattle.std.proofs.Common.{◌≡◌, take}
use Rattle.attr_types.specs.Table.{without_items}
use Rattle.attr_types.proofs.document.empty_document.Given as goal

abbrev pub invariant-loop : goal.invariant-loop
invariant-loop l = l.document.items ≡ without_items (take l.index l.fields)
