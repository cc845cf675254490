use Rattle.std.proofs.Common.{◌≡◌, take}
use Rattle.index_model.specs.Columns.{documents_with}
use Rattle.check_images.proofs.dictionary.documents_with.Given as goal

abbrev pub invariant-loop-entry : goal.invariant-loop-entry
invariant-loop-entry l = l.list.items ≡ documents_with l.value (take l.entry-index l.column)
