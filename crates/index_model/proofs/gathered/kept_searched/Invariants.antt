use Rattle.std.proofs.Common.{◌≡◌, take}
use Rattle.std.specs.List.{filter}
use Rattle.index_model.proofs.gathered.kept_searched.Given as goal
use Rattle.index_model.specs.Sets.{has}

abbrev pub invariant-loop-doc : goal.invariant-loop-doc
invariant-loop-doc l = l.kept ≡ filter (has l.list) (take l.doc-index l.docs)
