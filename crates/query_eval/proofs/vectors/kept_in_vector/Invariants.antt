use Rattle.std.proofs.Common.{◌≡◌, ◌||◌, ◌&&◌, ℕ, drop}
use Rattle.index_model.specs.Sets.{has}
use Rattle.query_eval.specs.Lists.{list_has}
use Rattle.query_eval.specs.Vectors.{IsInHand}
use Rattle.query_eval.proofs.vectors.kept_in_vector.Given as goal

-- those that were kept, and those that are still to come
abbrev pub invariant-loop-doc : goal.invariant-loop-doc
invariant-loop-doc g l =
    let m = g.F.Frozen.records l.fn.frozen in
    record {
      same : l.frozen ≡ l.fn.frozen;
      hand : IsInHand m l.list l.hand;
      whole : (doc : ℕ) → (has l.kept doc || (has (drop l.doc-index l.docs) doc && list_has m l.list doc))
          ≡ (has l.docs doc && list_has m l.list doc);
    }
