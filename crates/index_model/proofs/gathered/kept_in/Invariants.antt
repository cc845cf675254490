use Rattle.std.proofs.Common.{◌≡◌, take}
use Rattle.std.specs.List.{filter}
use Rattle.index_model.proofs.gathered.kept_in.Given as goal
use Rattle.index_model.specs.Sets.{in_words}

abbrev pub invariant-loop-doc : goal.invariant-loop-doc
invariant-loop-doc l = l.kept ≡ filter (in_words l.set) (take l.doc-index l.docs)
