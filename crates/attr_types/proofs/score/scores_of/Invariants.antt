use Rattle.std.proofs.Common.{◌≡◌, ◌++◌}
use Rattle.attr_types.specs.Scores.{scores}
use Rattle.attr_types.proofs.score.scores_of.Given as goal

-- the scores so far, and those of the documents that are left
abbrev pub invariant-loop-doc : goal.invariant-loop-doc
invariant-loop-doc l =
    l.list ++ scores l.field l.parts l.doc-iterator ≡ scores l.field l.parts l.documents.entries
