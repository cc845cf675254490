-- Scores by an index are those of the table.
use Rattle.std.proofs.Common.{◌≡◌, ◌<◌, ◌≤◌, ◌+◌, ◌*◌, ◌^◌, ℕ, ℤ, Bool, length, arith, true, false, ◌||◌, List, [], ◌∷◌, map, filter, Option, Some, None, nat_eq, refl, sym, ap, ap₂, subst, ◌∙◌, cond, zero, suc, Less}
use Rattle.std.proofs.lemmas.Option.{slice_get_past, slice_get_within}
use Rattle.std.specs.BTreeMap.{is_at}
use Rattle.std.specs.List.{AllByRecursion, AllZip, list_any, find}
use Rattle.std.specs.Prelude.{slice_get}
use Rattle.std.specs.List.Sorted.{IsStrictlySortedBy}
use Rattle.std.specs.Map.{keys_of, lookup}
use Rattle.std.specs.Option.{option_map, unwrap_or, is_some}
use Rattle.std.specs.Ordering.{is_eq, nat_cmp}
use Rattle.std.proofs.lemmas.Bool.{eqb-true, eqb-false}
use Rattle.std.proofs.lemmas.Cmp.{tied_itself, nat_cmp_total}
use Rattle.index_model.proofs.ColumnLemmas.{keys-column}
use Rattle.entry_ref.specs.Records.{Records}
use Rattle.attr_types.proofs.EntryLemmas.{nat_cmp_apart, sorted_map-filter}
use Rattle.attr_types.specs.Lawful.{IsLawfulDocument, IsLawfulItems}
use Rattle.attr_types.specs.Query.{items_in}
use Rattle.attr_types.specs.declared.field.Field.{Field}
use Rattle.attr_types.specs.declared.field.TheConstants.{MOST_FIELDS}
use Rattle.attr_types.specs.Table.{Table}
use Rattle.attr_types.specs.Value.{value_cmp}
use Rattle.attr_types.specs.declared.items.Item.{Item}
use Rattle.attr_types.specs.declared.value.Value.{Value}
use Rattle.index_model.specs.Changes.{HasItems}
use Rattle.index_model.specs.Columns.{Column, column_of, items_of}
use Rattle.index_model.specs.Index.{Index, IsIndexOf, list_of, weight_in}
use Rattle.index_model.proofs.ChangeLemmas.{has_items}
use Rattle.image_format.specs.Images.{dictionary_at, table_of, IsLawfulImage}
use Rattle.image_format.specs.Postings.{index_of}
use Rattle.image_format.specs.Shapes.{shape_of, types_of}
use Rattle.image_format.proofs.ImageLemmas.{table_lawful}
use Rattle.image_format.proofs.RootLemmas.{root_has_words}
use Rattle.index_model.proofs.OfLemmas.{all_found}
use Rattle.index_model.proofs.PartLemmas.{lookup_front}
use Rattle.attr_types.specs.Scores.{has_value, is_scored, score_of, scores}
use Rattle.attr_types.specs.declared.part.Part.{Part}
use Rattle.attr_types.specs.declared.score.Score.{Score}
use Rattle.index_model.proofs.BitLemmas.{by_cases}
use Rattle.index_model.proofs.DocLemmas.{ascends_from_sorted}
use Rattle.index_model.specs.Sets.{has, Holds}
use Rattle.query_eval.specs.Weights.{is_found}
use Rattle.query_eval.proofs.ImageLemmas.{field_at, small}

-- a document is in a list where it is looked up there
has_lookup : (doc : ℕ) (list : List (ℕ × ℤ)) → has (keys_of list) doc ≡ is_some (lookup (is_at (nat_cmp doc)) list)
has_lookup doc [] = refl
has_lookup doc (e ∷ list) = by_cases (nat_eq doc e.0)
    (λ there.
    ap (λ b. b || has (keys_of list) doc) there
    ∙ sym (ap (λ r. is_some (cond (is_eq r) (Some e.1) (lookup (is_at (nat_cmp doc)) list))) (ap (nat_cmp doc) (sym (eqb-true doc e.0 there)) ∙ tied_itself nat_cmp_total doc)))
    (λ apart.
    ap (λ b. b || has (keys_of list) doc) apart ∙ has_lookup doc list
    ∙ sym (ap (λ b. is_some (cond b (Some e.1) (lookup (is_at (nat_cmp doc)) list))) (nat_cmp_apart doc e.0 (eqb-false doc e.0 apart))))

-- and a value is that of some item where it has a weight
some_weight : (value : Value) (items : List Item) → is_some (weight_in value items) ≡ list_any (has_value value) items
some_weight value [] = refl
some_weight value (item ∷ items) =
    elim (is_eq (value_cmp value item.value)) as (λ b.
    is_some (option_map (λ (i : Item). i.weight) (cond b (Some item) (find (λ (i : Item). is_eq (value_cmp value i.value)) items))) ≡ (b || list_any (has_value value) items))
    [ true ↦ refl | false ↦ some_weight value items ]

found_scored : (parts : List Part) (index : Index) (doc : ℕ) (items : List Item) → HasItems index doc items → is_found parts index doc ≡ is_scored parts items
found_scored [] index doc items is = refl
found_scored (part ∷ parts) index doc items is =
    ap₂ (λ a b. a || b)
    (has_lookup doc (list_of part.value index) ∙ ap is_some (is part.value) ∙ some_weight part.value items)
    (found_scored parts index doc items is)

none_scored : (parts : List Part) → is_scored parts [] ≡ false
none_scored [] = refl
none_scored (part ∷ parts) = none_scored parts

-- the documents whose items pass
abbrev passing : ℕ → (List Item → Bool) → Table → List ℕ
passing i q table = map (λ e. e.0) (filter (λ e. q (items_in e.1 i)) table)

module _ (i : ℕ) (q : List Item → Bool) (none : q [] ≡ false) where
  -- the documents that pass are those whose items do
  passing_has : (table : Table) (doc : ℕ) → IsStrictlySortedBy nat_cmp (keys_of table) → has (passing i q table) doc ≡ q (items_of (column_of i table) doc)
  unfolding IsStrictlySortedBy
  passing_has [] doc up = sym none
  passing_has (e ∷ table) doc up = by_cases (nat_eq doc e.0)
      (λ there.
      let here : doc ≡ e.0 = eqb-true doc e.0 there in
      let gone : items_of (column_of i table) doc ≡ [] =
      ap (λ o. unwrap_or o []) (lookup_front doc (column_of i table)
      (subst (λ k. AllByRecursion (λ y. nat_cmp k y ≡ Less) (keys_of (column_of i table))) (sym here)
      (subst (AllByRecursion (λ y. nat_cmp e.0 y ≡ Less)) (sym (keys-column i table)) up.0))) in
      first_there (q (items_in e.1 i))
      (passing_has table doc up.1 ∙ ap q gone ∙ none) there
      ∙ sym (ap (λ r. q (unwrap_or (cond (is_eq r) (Some (items_in e.1 i)) (lookup (is_at (nat_cmp doc)) (column_of i table))) [])) (ap (nat_cmp doc) (sym here) ∙ tied_itself nat_cmp_total doc)))
      (λ apart.
      other_there (q (items_in e.1 i)) apart ∙ passing_has table doc up.1
      ∙ sym (ap (λ b. q (unwrap_or (cond b (Some (items_in e.1 i)) (lookup (is_at (nat_cmp doc)) (column_of i table))) [])) (nat_cmp_apart doc e.0 (eqb-false doc e.0 apart))))
    where
      first_there : (b : Bool) → has (passing i q table) doc ≡ false → nat_eq doc e.0 ≡ true
          → has (map (λ (f : ℕ × List (List Item)). f.0) (cond b (e ∷ filter (λ f. q (items_in f.1 i)) table) (filter (λ f. q (items_in f.1 i)) table))) doc ≡ b
      first_there true rest there = ap (λ c. c || has (passing i q table) doc) there
      first_there false rest there = rest

      other_there : (b : Bool) → nat_eq doc e.0 ≡ false
          → has (map (λ (f : ℕ × List (List Item)). f.0) (cond b (e ∷ filter (λ f. q (items_in f.1 i)) table) (filter (λ f. q (items_in f.1 i)) table))) doc ≡ has (passing i q table) doc
      other_there true apart = ap (λ c. c || has (passing i q table) doc) apart
      other_there false apart = refl

column_up : (i : ℕ) (table : Table) → IsStrictlySortedBy nat_cmp (keys_of table) → IsStrictlySortedBy nat_cmp (keys_of (column_of i table))
column_up i table up = subst (IsStrictlySortedBy nat_cmp) (sym (keys-column i table)) up

abbrev score_by : List Part → Column → ℕ → Score
score_by parts column doc = record { doc = doc; score = score_of parts (items_of column doc) }

abbrev score_in : ℕ → List Part → ℕ × List (List Item) → Score
score_in i parts e = record { doc = e.0; score = score_of parts (items_in e.1 i) }

abbrev score_with : List Part → ℕ → Option (List Item) → Score
score_with parts doc items = record { doc = doc; score = score_of parts (unwrap_or items []) }

each_same : (i : ℕ) (parts : List Part) (column : Column) (rest : Table)
    → AllByRecursion (λ e. lookup (is_at (nat_cmp e.0)) column ≡ Some e.1) (column_of i rest)
    → map (score_by parts column) (passing i (is_scored parts) rest) ≡ scores i parts rest
each_same i parts column [] all = refl
each_same i parts column (e ∷ rest) all =
    elim (is_scored parts (items_in e.1 i)) as (λ b.
    map (score_by parts column) (map (λ f. f.0) (cond b (e ∷ filter (λ f. is_scored parts (items_in f.1 i)) rest) (filter (λ f. is_scored parts (items_in f.1 i)) rest)))
    ≡ map (score_in i parts) (cond b (e ∷ filter (λ f. is_scored parts (items_in f.1 i)) rest) (filter (λ f. is_scored parts (items_in f.1 i)) rest))) [
      | true ↦ ap₂ (λ (x : Score) (xs : List Score). x ∷ xs) (ap (score_with parts e.0) all.0) (each_same i parts column rest all.1)
      | false ↦ each_same i parts column rest all.1
    ]

-- scores by parts and an index, from the items that its lists have, whatever these are
abbrev pub AreScored : List Part → Index → List Score → Type 0
AreScored parts index list = (items : ℕ → List Item) → ((doc : ℕ) → HasItems index doc (items doc))
    → (docs : List ℕ) → Holds docs (is_found parts index) → list ≡ map (λ doc. record { doc = doc; score = score_of parts (items doc) }) docs

-- are those of the table whose attribute has this index
scores_are : (i : ℕ) (parts : List Part) (table : Table) (index : Index) (list : List Score) → IsStrictlySortedBy nat_cmp (keys_of table)
    → IsIndexOf (column_of i table) index → AreScored parts index list → list ≡ scores i parts table
scores_are i parts table index list up of are =
    are (items_of (column_of i table)) has_them (passing i (is_scored parts) table) holds
    ∙ each_same i parts (column_of i table) table (all_found nat_cmp_total (column_of i table) (column_up i table up))
  where
    has_them : (doc : ℕ) → HasItems index doc (items_of (column_of i table) doc)
    has_them doc = has_items (column_of i table) index doc (column_up i table up) of

    holds : Holds (passing i (is_scored parts) table) (is_found parts index)
    holds = record {
      ascends = ascends_from_sorted (passing i (is_scored parts) table) (sorted_map-filter nat_cmp (λ e. e.0) (λ e. is_scored parts (items_in e.1 i)) table up);
      exact = λ doc. passing_has i (is_scored parts) (none_scored parts) table doc up
          ∙ sym (found_scored parts index doc (items_of (column_of i table) doc) (has_them doc));
    }

-- an attribute that is not there has apart items
none_at : {A B : Type 0} (P : A → B → Type 0) (xs : List A) (ys : List B) → AllZip P xs ys → (i : ℕ) → slice_get xs i ≡ None → slice_get ys i ≡ None
none_at P [] [] all i is = refl
none_at P [] (y ∷ ys) all i is = absurd all
none_at P (x ∷ xs) [] all i is = refl
none_at P (x ∷ xs) (y ∷ ys) all zero is = cc
none_at P (x ∷ xs) (y ∷ ys) all (suc i) is = none_at P xs ys all.1 i is

none_scores : (fields : List Field) (i : ℕ) (parts : List Part) → slice_get fields i ≡ None → (table : Table)
    → AllByRecursion (λ e. IsLawfulDocument fields e.1) table → [] ≡ scores i parts table
none_scores fields i parts is [] all = refl
none_scores fields i parts is (e ∷ table) all =
    none_scores fields i parts is table all.1
    ∙ ap (λ (b : Bool). map (score_in i parts)
    (cond b (e ∷ filter (λ f. is_scored parts (items_in f.1 i)) table) (filter (λ f. is_scored parts (items_in f.1 i)) table)))
    (sym (ap (λ o. is_scored parts (unwrap_or o [])) (none_at (λ field items. IsLawfulItems field.kind items) fields e.1 all.0 i is) ∙ none_scored parts))

-- the scores of an image
module _ (fields : List Field) (m : Records) (root : ℕ) (few : length fields ≤ MOST_FIELDS) (lawful : IsLawfulImage (shape_of (types_of fields)) m root) where
  pub no_scores : (i : ℕ) (parts : List Part) → length fields ≤ i → [] ≡ scores i parts (table_of (shape_of (types_of fields)) m root)
  no_scores i parts past =
      none_scores fields i parts (slice_get_past fields i past) (table_of (shape_of (types_of fields)) m root) (table_lawful fields m root few lawful).documents

  module _ (i : ℕ) (field : Field) (at : slice_get fields i ≡ Some field) where
    pub image_scores : (parts : List Part) (list : List Score) → AreScored parts (index_of field.value m (dictionary_at m root i)) list
        → list ≡ scores i parts (table_of (shape_of (types_of fields)) m root)
    image_scores parts list are =
        scores_are i parts (table_of (shape_of (types_of fields)) m root) (index_of field.value m (dictionary_at m root i)) list
        (table_lawful fields m root few lawful).ascends (field_at fields m root few lawful i field at).index are

    pub has_root : ((r : ℕ) → 0 < length (m r) → r < 2 ^ 32) → (0 < root → 2 + 2 * i < length (m root)) × (dictionary_at m root i < 2 ^ 32)
    has_root references = (
      λ some. let words = root_has_words fields m root few some lawful in
          let within = slice_get_within fields i field at in
          omega (arith, words, within),
      small fields m root few lawful references i field at,
    )
