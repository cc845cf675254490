-- The parts of a dot product, each with the list of its value.
use Rattle.std.specs.Prelude.{◌≡◌, ◌+ℤ◌, ◌*ℤ◌, ◌||◌, ℕ, ℤ, pos, Bool, List, [], ◌∷◌, Some, map}
use Rattle.std.specs.List.{list_any, AllByRecursion}
use Rattle.std.specs.Map.{keys_of}
use Rattle.entry_ref.specs.Records.{Records}
use Rattle.image_format.specs.Postings.{list_form, postings_at}
use Rattle.index_model.specs.Changes.{HasItems}
use Rattle.index_model.specs.Index.{Index, list_of}
use Rattle.index_model.specs.Sets.{has, Holds}
use Rattle.attr_types.specs.Scores.{score_of, weight_of}
use Rattle.attr_types.specs.declared.items.Item.{Item}
use Rattle.attr_types.specs.declared.part.Part.{Part}
use Rattle.attr_types.specs.declared.score.Score.{Score}
use Rattle.query_eval.specs.Lists.{list_has}
use Rattle.query_eval.specs.Weights.{is_found, weight_in_list, IsListWord}
use Rattle.query_eval.specs.declared.parts.ListPart.{ListPart}

-- the list of some part has the document
abbrev pub some_part_has : Records → List ListPart → ℕ → Bool
some_part_has m lists doc = list_any (λ part. list_has m part.list doc) lists

-- the sum over the parts of the part's weight times the weight of the document in its list
abbrev pub score_in_lists : Records → List ListPart → ℕ → ℤ
score_in_lists m [] doc = pos 0
score_in_lists m (part ∷ lists) doc =
    part.weight *ℤ weight_in_list doc (postings_at m (list_form part.list)) +ℤ score_in_lists m lists doc

abbrev pub AreListParts : Records → List ListPart → Type 0
AreListParts m lists = AllByRecursion (λ part. IsListWord m (Some part.list)) lists

-- one part more: its value's list, or nothing if the value has none
pub record AddsPart (m : Records) (index : Index) (part : Part) (old new : List ListPart) : Type 0 where
  pub words : AreListParts m old → AreListParts m new
  pub found : (doc : ℕ) → some_part_has m new doc ≡ (some_part_has m old doc || has (keys_of (list_of part.value index)) doc)
  pub score : (doc : ℕ) (items : List Item) → HasItems index doc items
      → score_in_lists m new doc ≡ score_in_lists m old doc +ℤ part.weight *ℤ weight_of part.value items

-- by these lists a document is found, and has the score, as by the parts
pub record AreListsOfParts (m : Records) (index : Index) (parts : List Part) (lists : List ListPart) : Type 0 where
  pub words : AreListParts m lists
  pub found : (doc : ℕ) → some_part_has m lists doc ≡ is_found parts index doc
  pub score : (doc : ℕ) (items : List Item) → HasItems index doc items → score_in_lists m lists doc ≡ score_of parts items

-- the documents that some list has, ascending, each with its score
abbrev pub AreScoresIn : Records → List ListPart → List Score → Type 0
AreScoresIn m lists list = (docs : List ℕ) → Holds docs (some_part_has m lists)
    → list ≡ map (λ doc. record { doc = doc; score = score_in_lists m lists doc }) docs
