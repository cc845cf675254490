use Rattle.std.proofs.Common.{◌≡◌, ◌||◌, ℕ, drop}
use Rattle.index_model.specs.Gathers.{is_gathered}
use Rattle.query_eval.specs.PartLists.{some_part_has, AreListParts}
use Rattle.query_eval.proofs.parts.gather_parts.Given as goal

-- what is there, and what the lists that are left bring
abbrev pub invariant-loop-part : goal.invariant-loop-part
invariant-loop-part g l =
    let m = g.F.Frozen.records l.fn.frozen in
    record {
      same : l.frozen ≡ l.fn.frozen;
      left : AreListParts m (drop l.part-index l.lists);
      whole : (doc : ℕ) → (is_gathered l.all doc || some_part_has m (drop l.part-index l.lists) doc) ≡ some_part_has m l.lists doc;
    }
