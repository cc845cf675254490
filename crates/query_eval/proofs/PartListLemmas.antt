-- The parts of a dot product with the lists of their values: one part more, one part less.
use Rattle.std.proofs.Common.{◌≡◌, ◌+ℤ◌, ◌*ℤ◌, ◌||◌, ◌++◌, ℕ, ℤ, pos, Bool, true, false, List, [], ◌∷◌, map, Some, refl, sym, ap, ap₂, subst, ◌∙◌, arith}
use Rattle.std.proofs.lemmas.Int.{ints}
use Rattle.std.proofs.lemmas.List.Folds.{list_any-append}
use Rattle.std.specs.Map.{keys_of}
use Rattle.list_lemmas.proofs.Each.{AllByRecursion-append}
use Rattle.entry_ref.specs.Records.{Records}
use Rattle.image_format.specs.Postings.{list_form, postings_at}
use Rattle.index_model.specs.Changes.{HasItems}
use Rattle.index_model.specs.Index.{Index, list_of}
use Rattle.index_model.specs.Sets.{has, Holds}
use Rattle.attr_types.specs.Scores.{score_of, weight_of}
use Rattle.attr_types.specs.declared.items.Item.{Item}
use Rattle.attr_types.specs.declared.part.Part.{Part}
use Rattle.attr_types.specs.declared.score.Score.{Score}
use Rattle.query_eval.specs.Lists.{list_has}
use Rattle.query_eval.specs.PartLists.{some_part_has, score_in_lists, AddsPart, AreListsOfParts, AreScoresIn}
use Rattle.query_eval.specs.Weights.{is_found, weight_in_list, IsListWord}
use Rattle.query_eval.specs.declared.parts.ListPart.{ListPart}
use Rattle.query_eval.proofs.WordLemmas.{weight_by_list}

-- what one more brings is no longer among what is left
pub one_more : (a b c d more whole : Bool) → more ≡ (a || b) → c ≡ (b || d) → (a || c) ≡ whole → (more || d) ≡ whole
one_more true b c d more whole is one all = ap (λ x. x || d) is ∙ all
one_more false b c d more whole is one all = ap (λ x. x || d) is ∙ sym one ∙ all

pub or_none : (a : Bool) → a ≡ (a || false)
or_none true = refl
or_none false = refl

plus_none : (s w z : ℤ) → z ≡ pos 0 → s ≡ s +ℤ w *ℤ z
plus_none s w z is = subst (λ (n : ℤ). s ≡ s +ℤ w *ℤ n) (sym is) (omega (arith, ints))

pub plus_nothing : (s : ℤ) → s ≡ s +ℤ pos 0
plus_nothing s = omega (arith, ints)

plus_last : (a s t p : ℤ) → t ≡ s +ℤ p → a +ℤ t ≡ (a +ℤ s) +ℤ p
plus_last a s t p is = omega (arith, ints, is)

pub plus_step : (s p rest left all more : ℤ) → s +ℤ left ≡ all → left ≡ p +ℤ rest → more ≡ s +ℤ p → more +ℤ rest ≡ all
plus_step s p rest left all more whole first is = omega (arith, ints, whole, first, is)

first_plus : (p : ℤ) → p +ℤ pos 0 ≡ pos 0 +ℤ p
first_plus p = omega (arith, ints)

score_append : (m : Records) (lists : List ListPart) (last : ListPart) (doc : ℕ)
    → score_in_lists m (lists ++ last ∷ []) doc ≡ score_in_lists m lists doc +ℤ last.weight *ℤ weight_in_list doc (postings_at m (list_form last.list))
score_append m [] last doc = first_plus (last.weight *ℤ weight_in_list doc (postings_at m (list_form last.list)))
score_append m (part ∷ lists) last doc =
    plus_last (part.weight *ℤ weight_in_list doc (postings_at m (list_form part.list))) (score_in_lists m lists doc)
    (score_in_lists m (lists ++ last ∷ []) doc) (last.weight *ℤ weight_in_list doc (postings_at m (list_form last.list))) (score_append m lists last doc)

module _ (m : Records) (index : Index) (part : Part) (old : List ListPart) where
  pub none_added : [] ≡ list_of part.value index → AddsPart m index part old old
  none_added none = record {
    words = λ are. are;
    found = λ doc. or_none (some_part_has m old doc) ∙ ap (λ (list : List (ℕ × ℤ)). some_part_has m old doc || has (keys_of list) doc) none;
    score = λ doc items are.
        plus_none (score_in_lists m old doc) part.weight (weight_of part.value items)
        (sym (weight_by_list index doc part.value items are) ∙ ap (λ (list : List (ℕ × ℤ)). weight_in_list doc list) (sym none));
  }

  pub one_added : (new : List ListPart) (item : ListPart) → new ≡ old ++ item ∷ [] → item.weight ≡ part.weight → IsListWord m (Some item.list)
      → postings_at m (list_form item.list) ≡ list_of part.value index → AddsPart m index part old new
  one_added new item pushed weight word list = subst (AddsPart m index part old) (sym pushed) (record {
    words = λ are. AllByRecursion-append (λ (p : ListPart). IsListWord m (Some p.list)) old (item ∷ []) are (word, tt);
    found = λ doc.
        list_any-append (λ (p : ListPart). list_has m p.list doc) old (item ∷ [])
        ∙ ap (λ b. some_part_has m old doc || b) (sym (or_none (list_has m item.list doc)))
        ∙ ap (λ (ps : List (ℕ × ℤ)). some_part_has m old doc || has (keys_of ps) doc) list;
    score = λ doc items are.
        score_append m old item doc
        ∙ ap₂ (λ (w z : ℤ). score_in_lists m old doc +ℤ w *ℤ z) weight
        (ap (λ (ps : List (ℕ × ℤ)). weight_in_list doc ps) list ∙ weight_by_list index doc part.value items are);
  })

-- the same scores for each document
same_scores : (f g : ℕ → ℤ) → ((doc : ℕ) → f doc ≡ g doc) → (docs : List ℕ)
    → map {B = Score} (λ doc. record { doc = doc; score = f doc }) docs ≡ map {B = Score} (λ doc. record { doc = doc; score = g doc }) docs
same_scores f g each [] = refl
same_scores f g each (doc ∷ docs) =
    ap₂ (λ (z : ℤ) (rest : List Score). record { doc = doc; score = z } ∷ rest) (each doc) (same_scores f g each docs)

-- scores by lists are those by the parts
pub by_parts : (m : Records) (index : Index) (parts : List Part) (lists : List ListPart) (list : List Score) → AreListsOfParts m index parts lists
    → AreScoresIn m lists list → (items : ℕ → List Item) → ((doc : ℕ) → HasItems index doc (items doc))
    → (docs : List ℕ) → Holds docs (is_found parts index) → list ≡ map {B = Score} (λ doc. record { doc = doc; score = score_of parts (items doc) }) docs
by_parts m index parts lists list are is items has docs holds =
    is docs (record { ascends = holds.ascends; exact = λ doc. holds.exact doc ∙ sym (are.found doc) })
    ∙ same_scores (score_in_lists m lists) (λ doc. score_of parts (items doc)) (λ doc. are.score doc (items doc) (has doc)) docs
