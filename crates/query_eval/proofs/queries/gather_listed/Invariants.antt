use Rattle.std.proofs.Common.{◌≡◌, ◌||◌, ℕ, drop}
use Rattle.index_model.specs.Gathers.{is_gathered}
use Rattle.index_model.specs.Found.{is_listed}
use Rattle.query_eval.specs.Indexes.{AreIndexed, indexes_in}
use Rattle.query_eval.proofs.queries.gather_listed.Given as goal

-- what is there, and what the dictionaries that are left bring
abbrev pub invariant-loop-dictionary : goal.invariant-loop-dictionary
invariant-loop-dictionary g l =
    let m = g.F.Frozen.records l.fn.frozen in
    record {
      same : l.frozen ≡ l.fn.frozen;
      left : AreIndexed g.row.OFFSET_BITS m (drop l.dictionary-index l.dictionaries);
      whole : (doc : ℕ) → (is_gathered l.all doc || is_listed (indexes_in g.row.OFFSET_BITS m (drop l.dictionary-index l.dictionaries)) doc)
          ≡ (is_gathered l.fn.gathered doc || is_listed (indexes_in g.row.OFFSET_BITS m l.dictionaries) doc);
    }
