-- The key of a value, and the value of a key.
use Rattle.std.proofs.Common.{◌≡◌, ℕ, ◌<◌, List, [], ◌∷◌, ◌++◌, map, length, Option, None, Some, option_map, inl, inr, refl, sym, ap, subst, ◌∙◌, arith}
use Rattle.std.specs.BTreeMap.{is_at}
use Rattle.std.specs.declared.cmp.Ordering.{Ordering}
use Rattle.std.specs.declared.cmp.Ordering.TheVariants.{Less, Equal, Greater}
use Rattle.std.specs.List.{flat_map, AllByRecursion}
use Rattle.std.specs.List.Sorted.{IsStrictlySortedBy}
use Rattle.std.specs.Map.{lookup}
use Rattle.std.specs.Option.{unwrap_or}
use Rattle.list_lemmas.proofs.Options.{same_Some}
use Rattle.image_format.proofs.ImageLemmas.{value_typed}
use Rattle.entry_ref.specs.Records.{Records, Among}
use Rattle.tree_read.specs.Pairs.{choose, lookup_pair}
use Rattle.tree_read.specs.Trees.{tree_pairs, tree_nodes}
use Rattle.image_format.specs.Postings.{list_form, postings_reach, dictionary_reach, index_of}
use Rattle.image_format.specs.Values.{stored_value, IsValueRecord}
use Rattle.index_model.specs.Index.{list_of}
use Rattle.attr_types.specs.ProofsForOrder.{value_cmp_exact}
use Rattle.attr_types.specs.Value.{type_of, value_cmp}
use Rattle.attr_types.specs.declared.kind.ValueType.{ValueType}
use Rattle.attr_types.specs.declared.value.Value.{Value}
use Rattle.enum_dictionary.specs.Dictionaries.{beside_value}
use Rattle.enum_dictionary.proofs.DictionaryLemmas.{value_same}
use Rattle.value_index.specs.Indexes.{key_at, IsIndex, IsKey, IsValuePair}
use Rattle.value_index.specs.Laws.{IsKeyRecord, ValueHasKey}
use Rattle.value_index.proofs.IndexLemmas.{docs_at, pair_filled, pair_reach}
use Rattle.value_index.proofs.PairLemmas.{keys, all_found, found_among}
use Rattle.value_index.proofs.ShownLemmas.{Docs, shown_found}

-- the list of a value by the pair that is found for it
module _ (value : Value) (m : Records) (root : ℕ) (is : IsIndex (type_of value) m root) where
  by_pair : lookup (is_at (value_cmp value)) (index_of (type_of value) m root)
      ≡ option_map (λ (p : ℕ × ℕ). docs_at m p.1) (lookup_pair (beside_value value m) (tree_pairs m root))
  by_pair = shown_found value (stored_value (type_of value) m) (docs_at m) (tree_pairs m root) is.dictionary_is.tree_is.ascends

  pub list_found : (p : ℕ × ℕ) → lookup_pair (beside_value value m) (tree_pairs m root) ≡ Some p → list_of value (index_of (type_of value) m root) ≡ docs_at m p.1
  list_found p found =
      ap (λ (o : Option Docs). unwrap_or o []) by_pair
      ∙ ap (λ (o : Option (ℕ × ℕ)). unwrap_or (option_map (λ (q : ℕ × ℕ). docs_at m q.1) o) []) found

  pub list_none : lookup_pair (beside_value value m) (tree_pairs m root) ≡ None → list_of value (index_of (type_of value) m root) ≡ []
  list_none none =
      ap (λ (o : Option Docs). unwrap_or o []) by_pair
      ∙ ap (λ (o : Option (ℕ × ℕ)). unwrap_or (option_map (λ (q : ℕ × ℕ). docs_at m q.1) o) []) none

  pub pair_found : (p : ℕ × ℕ) → lookup_pair (beside_value value m) (tree_pairs m root) ≡ Some p → IsValuePair m p
  pair_found p found = all_found (beside_value value m) (IsValuePair m) p (tree_pairs m root) is.pairs found

  pub record_found : (p : ℕ × ℕ) → lookup_pair (beside_value value m) (tree_pairs m root) ≡ Some p → IsValueRecord (type_of value) (m p.0)
  record_found p found = all_found (beside_value value m) (λ q. IsValueRecord (type_of value) (m q.0)) p (tree_pairs m root) is.dictionary_is.keys found

-- the key that is found reads as the value
found_equal : (c : ℕ → Ordering) (p : ℕ × ℕ) (ps : List (ℕ × ℕ)) → lookup_pair c ps ≡ Some p → c p.0 ≡ Equal
found_equal c p [] is = absurd (grind (arith, is))
found_equal c p (q ∷ ps) is =
    (elim (c q.0) as (λ o. c q.0 ≡ o → choose o (lookup_pair c ps) (Some q) None ≡ Some p → c p.0 ≡ Equal) [
      | Less ↦ λ e h. found_equal c p ps h
      | Equal ↦ λ e h. subst (λ (x : ℕ × ℕ). c x.0 ≡ Equal) (same_Some q p h) e
      | Greater ↦ λ e h. absurd (grind (arith, h))
    ]) refl is

pub reads_found : (value : Value) (m : Records) (p : ℕ × ℕ) (ps : List (ℕ × ℕ)) → lookup_pair (beside_value value m) ps ≡ Some p → stored_value (type_of value) m p.0 ≡ value
reads_found value m p ps found = value_cmp_exact (stored_value (type_of value) m p.0) value (found_equal (beside_value value m) p ps found)

-- the pair of a key is found by what it reads as
pub by_value : (v : ℕ → Value) (ref : ℕ) (ps : List (ℕ × ℕ)) → IsStrictlySortedBy value_cmp (map (λ p. v p.0) ps) → Among ref (keys ps)
    → (word : ℕ) × (lookup_pair (λ k. value_cmp (v k) (v ref)) ps ≡ Some (ref, word))
unfolding IsStrictlySortedBy
by_value v ref [] up among = absurd among
by_value v ref (p ∷ ps) up (inl here) = (
  p.1,
  subst (λ (k : ℕ). choose (value_cmp (v p.0) (v k)) (lookup_pair (λ j. value_cmp (v j) (v k)) ps) (Some p) None ≡ Some (k, p.1)) (sym here)
      (ap (λ o. choose o (lookup_pair (λ j. value_cmp (v j) (v p.0)) ps) (Some p) None) (value_same (v p.0))),
)
by_value v ref (p ∷ ps) up (inr later) =
    let rest = by_value v ref ps up.1 later in
    (rest.0, ap (λ o. choose o (lookup_pair (λ j. value_cmp (v j) (v ref)) ps) (Some p) None) (below ps up.0 later) ∙ rest.1)
  where
    below : (qs : List (ℕ × ℕ)) → AllByRecursion (λ x. value_cmp (v p.0) x ≡ Less) (map (λ q. v q.0) qs) → Among ref (keys qs) → value_cmp (v p.0) (v ref) ≡ Less
    below [] all among = absurd among
    below (q ∷ qs) all (inl here) = subst (λ (k : ℕ). value_cmp (v p.0) (v k) ≡ Less) (sym here) all.0
    below (q ∷ qs) all (inr more) = below qs all.1 more

-- what holds of each key
pub at_key : (P : ℕ → Type 0) (ref : ℕ) (ps : List (ℕ × ℕ)) → AllByRecursion (λ p. P p.0) ps → Among ref (keys ps) → P ref
at_key P ref [] all among = absurd among
at_key P ref (p ∷ ps) all (inl here) = subst P (sym here) all.0
at_key P ref (p ∷ ps) all (inr later) = at_key P ref ps all.1 later

pub among_left : (r : ℕ) (xs ys : List ℕ) → Among r xs → Among r (xs ++ ys)
among_left r [] ys among = absurd among
among_left r (x ∷ xs) ys (inl e) = inl e
among_left r (x ∷ xs) ys (inr later) = inr (among_left r xs ys later)

pub among_right : (r : ℕ) (xs ys : List ℕ) → Among r ys → Among r (xs ++ ys)
among_right r [] ys among = among
among_right r (x ∷ xs) ys among = inr (among_right r xs ys among)

key_owned : (m : Records) (ref : ℕ) (ps : List (ℕ × ℕ)) → Among ref (keys ps) → Among ref (flat_map (pair_reach m) ps)
key_owned m ref [] among = absurd among
key_owned m ref (p ∷ ps) (inl here) = inl here
key_owned m ref (p ∷ ps) (inr later) = inr (among_right ref (postings_reach m (list_form p.1)) (flat_map (pair_reach m) ps) (key_owned m ref ps later))

some_keys : (m : Records) (ps : List (ℕ × ℕ)) → AllByRecursion (IsValuePair m) ps → AllByRecursion (λ p. 0 < p.0) ps
some_keys m [] all = tt
some_keys m (p ∷ ps) all = (all.0.key, some_keys m ps all.1)

pub key_is_read : (type : ValueType) (m : Records) (root ref : ℕ) → IsIndex type m root → IsKey m root ref → IsKeyRecord type m root ref (stored_value type m ref)
key_is_read type m root ref is key =
    let value = stored_value type m ref in
    let typed : type_of value ≡ type = value_typed type (m ref) in
    let at = by_value (stored_value type m) ref (tree_pairs m root) is.dictionary_is.tree_is.ascends key in
    let found : lookup_pair (beside_value value m) (tree_pairs m root) ≡ Some (ref, at.0) =
    subst (λ (t : ValueType). lookup_pair (λ k. value_cmp (stored_value t m k) value) (tree_pairs m root) ≡ Some (ref, at.0)) (sym typed) at.1 in
    let as_index : IsIndex (type_of value) m root = subst (λ (t : ValueType). IsIndex t m root) (sym typed) is in
    record {
      record_is = at_key (λ k. IsValueRecord type (m k)) ref (tree_pairs m root) is.dictionary_is.keys key;
      reads = refl;
      some = at_key (λ k. 0 < k) ref (tree_pairs m root) (some_keys m (tree_pairs m root) is.pairs) key;
      owned = among_right ref (tree_nodes m root) (dictionary_reach m root) (key_owned m ref (tree_pairs m root) key);
      found = ap (option_map (λ (p : ℕ × ℕ). p.0)) found;
      filled = subst (λ (t : ValueType). 0 < length (list_of value (index_of t m root))) typed
          (subst {A = Docs} (λ docs. 0 < length docs) (sym (list_found value m root as_index (ref, at.0) found))
          (pair_filled (type_of value) m (ref, at.0) (pair_found value m root as_index (ref, at.0) found)));
    }

pair_of_key : (ref : ℕ) (o : Option (ℕ × ℕ)) → option_map (λ p. p.0) o ≡ Some ref → (p : ℕ × ℕ) × (o ≡ Some p) × (p.0 ≡ ref)
pair_of_key ref None is = absurd (grind (arith, is))
pair_of_key ref (Some p) is = (p, refl, same_Some p.0 ref is)

found_key_at : (value : Value) (m : Records) (root ref : ℕ) → key_at value m root ≡ Some ref → IsKey m root ref × (stored_value (type_of value) m ref ≡ value)
found_key_at value m root ref at =
    let pair = pair_of_key ref (lookup_pair (beside_value value m) (tree_pairs m root)) at in (
      subst (λ (k : ℕ). Among k (keys (tree_pairs m root))) pair.2 (found_among (beside_value value m) pair.0 (tree_pairs m root) pair.1),
      subst (λ (k : ℕ). stored_value (type_of value) m k ≡ value) pair.2 (reads_found value m pair.0 (tree_pairs m root) pair.1),
    )

pub found_is_key : (type : ValueType) (m : Records) (root ref : ℕ) (value : Value) → IsIndex type m root → type_of value ≡ type → key_at value m root ≡ Some ref
    → IsKey m root ref × (stored_value type m ref ≡ value)
found_is_key type m root ref value is typed at =
    subst (λ (t : ValueType). IsKey m root ref × (stored_value t m ref ≡ value)) typed (found_key_at value m root ref at)

has_key : (value : Value) (m : Records) (root : ℕ) → IsIndex (type_of value) m root → (o : Option (ℕ × ℕ)) → lookup_pair (beside_value value m) (tree_pairs m root) ≡ o
    → 0 < length (list_of value (index_of (type_of value) m root)) → (ref : ℕ) × (key_at value m root ≡ Some ref)
has_key value m root is None none some =
    absurd (let empty : length (list_of value (index_of (type_of value) m root)) ≡ 0 = ap (λ (docs : Docs). length docs) (list_none value m root is none) in omega arith)
has_key value m root is (Some p) found some = (p.0, ap (option_map (λ (q : ℕ × ℕ). q.0)) found)

pub value_has_key : (type : ValueType) (m : Records) (root : ℕ) (value : Value) → IsIndex type m root → type_of value ≡ type
    → 0 < length (list_of value (index_of type m root)) → (ref : ℕ) × (key_at value m root ≡ Some ref)
value_has_key type m root value is typed some =
    has_key value m root (subst (λ (t : ValueType). IsIndex t m root) (sym typed) is) (lookup_pair (beside_value value m) (tree_pairs m root)) refl
    (subst (λ (t : ValueType). 0 < length (list_of value (index_of t m root))) (sym typed) some)

-- the key of a value that has documents
none_some : (o : Option ℕ) (ref : ℕ) → o ≡ None → o ≡ Some ref → ⊥
none_some None ref none some = cc
none_some (Some q) ref none some = cc

pub found_not_none : ValueHasKey → (type : ValueType) (m : Records) (root : ℕ) (value : Value) → IsIndex type m root → type_of value ≡ type
    → 0 < length (list_of value (index_of type m root)) → key_at value m root ≡ None → ⊥
found_not_none there type m root value index typed listed none =
    let found = there type m root value index typed listed in
    none_some (key_at value m root) found.0 none found.1
