-- The pairs of a dictionary, as parts of its index.
use Rattle.std.proofs.Common.{◌≡◌, ◌≢◌, ◌||◌, ℕ, ℤ, Bool, true, false, List, [], ◌∷◌, ◌++◌, map, drop, Some, refl, sym, ap, subst, ◌∙◌, cond, nat_eq}
use Rattle.std.specs.declared.cmp.Ordering.{Ordering}
use Rattle.std.specs.declared.cmp.Ordering.TheVariants.{Less, Equal, Greater}
use Rattle.std.specs.List.{AllByRecursion, list_any}
use Rattle.std.specs.List.Sorted.{IsStrictlySortedBy}
use Rattle.std.specs.Map.{keys_of}
use Rattle.std.specs.Ordering.{is_lt}
use Rattle.entry_ref.specs.Records.{Records}
use Rattle.tree_read.specs.Trees.{tree_pairs}
use Rattle.tree_read.specs.Pairs.{choose, seek as tree_seek}
use Rattle.tree_read.specs.SearchPlaces.{first_key, first_value}
use Rattle.image_format.specs.Postings.{list_form, postings_at, index_of}
use Rattle.image_format.specs.Values.{stored_value, IsValueRecord}
use Rattle.index_model.specs.Index.{Index}
use Rattle.attr_types.specs.Fitting.{is_of_type}
use Rattle.attr_types.specs.Value.{type_of, value_cmp}
use Rattle.attr_types.specs.declared.kind.ValueType.{ValueType}
use Rattle.attr_types.specs.declared.kind.ValueType.TheVariants as types
use Rattle.attr_types.specs.declared.query.Leaf.{Leaf}
use Rattle.attr_types.specs.declared.value.Value.{Value}
use Rattle.attr_types.specs.declared.value.Value.TheVariants as values
use Rattle.enum_dictionary.specs.Dictionaries.{IsDictionary, beside_value}
use Rattle.enum_dictionary.proofs.BehindLemmas.{All-seek}
use Rattle.index_model.proofs.RunLemmas.{run_is_filter, sought_is_filter}
use Rattle.index_model.specs.Leaves.{from, stands_beyond, listed, meeting, run, from_value, sought, from_sought}
use Rattle.index_model.specs.Sets.{has}
use Rattle.query_eval.specs.Parts.{IsIndexPair, AreIndexPairs, IsIndexed, index_of_pairs}

pub type_is : (type : ValueType) (value : Value) → is_of_type type value ≡ true → type_of value ≡ type
type_is types.Long (values.Long a) is = refl
type_is types.Text (values.Text a) is = refl
type_is types.Long (values.Text a) is = cc
type_is types.Text (values.Long a) is = cc

pub all_drop : (P : ℕ × ℕ → Type 0) (ps : List (ℕ × ℕ)) → AllByRecursion P ps → AllByRecursion P (drop 1 ps)
all_drop P [] all = tt
all_drop P (p ∷ ps) all = all.1

has_append : (xs ys : List ℕ) (doc : ℕ) → list_any (nat_eq doc) (xs ++ ys) ≡ (list_any (nat_eq doc) xs || list_any (nat_eq doc) ys)
has_append [] ys doc = refl
has_append (x ∷ xs) ys doc = ap (λ b. nat_eq doc x || b) (has_append xs ys doc) ∙ or_assoc (nat_eq doc x) _ _
  where
    or_assoc : (a b c : Bool) → (a || (b || c)) ≡ ((a || b) || c)
    or_assoc true b c = refl
    or_assoc false b c = refl

module _ (type : ValueType) (m : Records) where
  pub keys_are : (ps : List (ℕ × ℕ)) → keys_of (index_of_pairs type m ps) ≡ map (λ p. stored_value type m p.0) ps
  keys_are [] = refl
  keys_are (p ∷ ps) = ap (λ vs. stored_value type m p.0 ∷ vs) (keys_are ps)

  abbrev entry : ℕ × ℕ → Value × List (ℕ × ℤ)
  entry p = (stored_value type m p.0, postings_at m (list_form p.1))

  one_step : (r : Ordering) (p : ℕ × ℕ) (ps found : List (ℕ × ℕ)) (rest : Index) → index_of_pairs type m found ≡ rest
      → index_of_pairs type m (choose r found (p ∷ ps) (p ∷ ps)) ≡ cond (is_lt r) rest (entry p ∷ index_of_pairs type m ps)
  one_step Less p ps found rest is = is
  one_step Equal p ps found rest is = refl
  one_step Greater p ps found rest is = refl

  part_seek : (low : Value) (ps : List (ℕ × ℕ))
      → index_of_pairs type m (tree_seek (λ k. value_cmp (stored_value type m k) low) ps) ≡ from_value low (index_of_pairs type m ps)
  part_seek low [] = refl
  part_seek low (p ∷ ps) = one_step (value_cmp (stored_value type m p.0) low) p ps _ _ (part_seek low ps)

  module _ (root : ℕ) (is : IsIndexed type m root) where
    ascends : IsStrictlySortedBy value_cmp (keys_of (index_of type m root))
    ascends = subst (IsStrictlySortedBy value_cmp) (sym (keys_are (tree_pairs m root))) is.tree_is.ascends

    -- a walk from the first value on
    pub first_run : (leaf : Leaf) (ps : List (ℕ × ℕ)) → ps ≡ tree_pairs m root
        → run leaf (from leaf (index_of_pairs type m ps)) ≡ meeting leaf (index_of type m root)
    first_run leaf ps all = ap (λ (part : List (ℕ × ℕ)). run leaf (from leaf (index_of_pairs type m part))) all ∙ run_is_filter (index_of type m root) leaf ascends

    pub first_pairs : (ps : List (ℕ × ℕ)) → ps ≡ tree_pairs m root → AreIndexPairs type m ps
    first_pairs ps all = subst (AreIndexPairs type m) (sym all) is.pairs

    module _ (low : Value) (typed : type_of low ≡ type) where
      pub is_dictionary : IsDictionary (type_of low) m root
      is_dictionary = subst (λ t. IsDictionary t m root) (sym typed) (record { tree_is = is.tree_is; keys = all_keys (tree_pairs m root) is.pairs })
        where
          all_keys : (ps : List (ℕ × ℕ)) → AreIndexPairs type m ps → AllByRecursion (λ p. IsValueRecord type (m p.0)) ps
          all_keys [] all = tt
          all_keys (p ∷ ps) all = (all.0.entry.0, all_keys ps all.1)

      sought_pairs : tree_seek (beside_value low m) (tree_pairs m root) ≡ tree_seek (λ k. value_cmp (stored_value type m k) low) (tree_pairs m root)
      sought_pairs = ap (λ t. tree_seek (λ k. value_cmp (stored_value t m k) low) (tree_pairs m root)) typed

      -- a walk from a value on that is sought
      pub sought_run : (leaf : Leaf) (ps : List (ℕ × ℕ)) → ps ≡ tree_seek (beside_value low m) (tree_pairs m root) → sought leaf ≡ Some low
          → run leaf (from leaf (index_of_pairs type m ps)) ≡ meeting leaf (index_of type m root)
      sought_run leaf ps found seeks =
          ap (λ (part : Index). run leaf (from leaf part))
          (ap (index_of_pairs type m) (found ∙ sought_pairs) ∙ part_seek low (tree_pairs m root) ∙ ap (λ o. from_sought o (index_of type m root)) (sym seeks))
          ∙ sought_is_filter (index_of type m root) leaf ascends

      pub sought_all : (ps : List (ℕ × ℕ)) → ps ≡ tree_seek (beside_value low m) (tree_pairs m root) → AreIndexPairs type m ps
      sought_all ps found = subst (AreIndexPairs type m) (sym found) (All-seek (IsIndexPair type m) (beside_value low m) (tree_pairs m root) is.pairs)

  -- one list more
  joined : (a b c d more whole : Bool) → more ≡ (a || b) → c ≡ (b || d) → (a || c) ≡ whole → (more || d) ≡ whole
  joined true b c d more whole is one all = ap (λ x. x || d) is ∙ all
  joined false b c d more whole is one all = ap (λ x. x || d) is ∙ sym one ∙ all

  listed_first : (p : ℕ × ℕ) (rest : Index) (doc : ℕ)
      → has (listed (entry p ∷ rest)) doc ≡ (has (keys_of (postings_at m (list_form p.1))) doc || has (listed rest) doc)
  listed_first p rest doc = has_append (keys_of (postings_at m (list_form p.1))) (listed rest) doc

  module _ (ps : List (ℕ × ℕ)) (some : ps ≢ []) (word : ℕ) (second : word ≡ first_value ps) (all more whole : ℕ → Bool)
      (gathers : (doc : ℕ) → more doc ≡ (all doc || has (keys_of (postings_at m (list_form word))) doc)) where
    pub run_goes : (leaf : Leaf) → stands_beyond leaf (stored_value type m (first_key ps)) ≡ false
        → ((doc : ℕ) → (all doc || has (listed (run leaf (index_of_pairs type m ps))) doc) ≡ whole doc)
        → (doc : ℕ) → (more doc || has (listed (run leaf (index_of_pairs type m (drop 1 ps)))) doc) ≡ whole doc
    run_goes leaf off before doc = told ps some second off (before doc)
      where
        told : (ps : List (ℕ × ℕ)) → ps ≢ [] → word ≡ first_value ps → stands_beyond leaf (stored_value type m (first_key ps)) ≡ false
            → (all doc || has (listed (run leaf (index_of_pairs type m ps))) doc) ≡ whole doc
            → (more doc || has (listed (run leaf (index_of_pairs type m (drop 1 ps)))) doc) ≡ whole doc
        told [] some second off before = absurd (some refl)
        told (p ∷ ps) some second off before =
            joined (all doc) (has (keys_of (postings_at m (list_form word))) doc) _ (has (listed (run leaf (index_of_pairs type m ps))) doc) (more doc) (whole doc)
            (gathers doc)
            (ap (λ b. has (listed (cond b [] (entry p ∷ run leaf (index_of_pairs type m ps)))) doc) off
            ∙ listed_first p (run leaf (index_of_pairs type m ps)) doc
            ∙ ap (λ w. has (keys_of (postings_at m (list_form w))) doc || has (listed (run leaf (index_of_pairs type m ps))) doc) (sym second))
            before

    pub all_goes : ((doc : ℕ) → (all doc || has (listed (index_of_pairs type m ps)) doc) ≡ whole doc)
        → (doc : ℕ) → (more doc || has (listed (index_of_pairs type m (drop 1 ps))) doc) ≡ whole doc
    all_goes before doc = told ps some second (before doc)
      where
        told : (ps : List (ℕ × ℕ)) → ps ≢ [] → word ≡ first_value ps → (all doc || has (listed (index_of_pairs type m ps)) doc) ≡ whole doc
            → (more doc || has (listed (index_of_pairs type m (drop 1 ps))) doc) ≡ whole doc
        told [] some second before = absurd (some refl)
        told (p ∷ ps) some second before =
            joined (all doc) (has (keys_of (postings_at m (list_form word))) doc) _ (has (listed (index_of_pairs type m ps)) doc) (more doc) (whole doc)
            (gathers doc)
            (listed_first p (index_of_pairs type m ps) doc
            ∙ ap (λ w. has (keys_of (postings_at m (list_form w))) doc || has (listed (index_of_pairs type m ps)) doc) (sym second))
            before
