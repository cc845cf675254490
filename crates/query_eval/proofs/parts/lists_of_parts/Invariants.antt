use Rattle.std.proofs.Common.{◌≡◌, ◌||◌, ◌+ℤ◌, ℕ, List, drop}
use Rattle.image_format.specs.Postings.{index_of}
use Rattle.index_model.specs.Changes.{HasItems}
use Rattle.attr_types.specs.Scores.{score_of}
use Rattle.attr_types.specs.declared.items.Item.{Item}
use Rattle.query_eval.specs.PartLists.{some_part_has, score_in_lists, AreListParts}
use Rattle.query_eval.specs.Weights.{is_found}
use Rattle.query_eval.proofs.parts.lists_of_parts.Given as goal

-- the lists so far, and what the parts that are left bring
abbrev pub invariant-loop-part : goal.invariant-loop-part
invariant-loop-part g l =
    let m = g.F.Frozen.records l.fn.frozen in
    let index = index_of l.value_type m l.root in
    record {
      same : l.frozen ≡ l.fn.frozen;
      words : AreListParts m l.lists.items;
      found : (doc : ℕ) → (some_part_has m l.lists.items doc || is_found (drop l.part-index l.parts) index doc) ≡ is_found l.parts index doc;
      score : (doc : ℕ) (items : List Item) → HasItems index doc items
          → score_in_lists m l.lists.items doc +ℤ score_of (drop l.part-index l.parts) items ≡ score_of l.parts items;
    }
