use Rattle.std.proofs.Common.{◌≡◌, ◌++◌, ℕ, map, drop}
use Rattle.query_results.specs.Attributes.{value_in}
use Rattle.query_results.specs.Ranks.{ranked}
use Rattle.query_results.specs.Walks.{IsWalk}
use Rattle.query_results.proofs.ranks.ranked_along.Given as goal

-- the keys so far, and those of the documents that are left
abbrev pub invariant-loop-doc : goal.invariant-loop-doc
invariant-loop-doc g l =
    let m = g.F.Frozen.records l.fn.frozen in
    record {
      same : l.frozen ≡ l.fn.frozen;
      walk : IsWalk m l.attribute.documents l.walk;
      whole : l.list.items ++ map (λ (doc : ℕ). ranked l.direction (value_in g.row.OFFSET_BITS m l.attribute doc, doc)) (drop l.doc-index l.docs)
          ≡ map (λ (doc : ℕ). ranked l.direction (value_in g.row.OFFSET_BITS m l.attribute doc, doc)) l.docs;
    }
