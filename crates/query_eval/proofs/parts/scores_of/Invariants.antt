use Rattle.std.proofs.Common.{◌≡◌, ◌++◌, map, drop}
use Rattle.query_eval.specs.PartLists.{score_in_lists}
use Rattle.query_eval.proofs.parts.scores_of.Given as goal

-- the scores so far, and those of the documents that are left
abbrev pub invariant-loop-doc : goal.invariant-loop-doc
invariant-loop-doc g l =
    let m = g.F.Frozen.records l.fn.frozen in
    record {
      same : l.frozen ≡ l.fn.frozen;
      whole : l.list ++ map (λ doc. record { doc = doc; score = score_in_lists m l.lists doc }) (drop l.doc-index l.docs)
          ≡ map (λ doc. record { doc = doc; score = score_in_lists m l.lists doc }) l.docs;
    }
