use Rattle.std.proofs.Common.{◌≡◌, ◌||◌, ℕ, drop}
use Rattle.index_model.specs.Gathers.{is_gathered}
use Rattle.query_eval.specs.Lists.{some_has, AreListWords}
use Rattle.query_eval.proofs.members.gather_each.Given as goal

-- what is there, and what the lists that are left bring
abbrev pub invariant-loop-list : goal.invariant-loop-list
invariant-loop-list g l =
    let m = g.F.Frozen.records l.fn.frozen in
    record {
      same : l.frozen ≡ l.fn.frozen;
      left : AreListWords m (drop l.list-index l.lists);
      whole : (doc : ℕ) → (is_gathered l.all doc || some_has m (drop l.list-index l.lists) doc) ≡ (is_gathered l.fn.gathered doc || some_has m l.lists doc);
    }
