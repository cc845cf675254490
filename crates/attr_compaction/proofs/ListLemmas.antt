-- The next key in lists.
use Rattle.std.proofs.Common.{◌≡◌, ◌≢◌, ℕ, ℤ, zero, suc, ◌+◌, ◌-◌, ◌*◌, ◌/◌, ◌%◌, ◌<◌, ◌^◌, Bool, true, false}
use Rattle.std.proofs.Common.{cond, not, nat_lt, List, [], ◌∷◌, ◌++◌, map, length, None, Some, Option, option_map, Less, Equal, Greater, is_lt}
use Rattle.std.proofs.Common.{nat_cmp, refl, sym, ap, subst, ◌∙◌, arith}
use Rattle.std.proofs.lemmas.Bool.{le-ltb}
use Rattle.std.proofs.lemmas.List.{length-map}
use Rattle.std.specs.declared.cmp.Ordering.{Ordering}
use Rattle.std.specs.List.{find, AllByRecursion}
use Rattle.std.specs.List.Sorted.{IsStrictlySortedBy}
use Rattle.std.specs.Map.{keys_of}
use Rattle.std.specs.Ordering.{ordering_reverse, ordering_then}
use Rattle.entry_ref.specs.Records.{Records}
use Rattle.tree_read.specs.Pairs.{choose, lookup_pair, seek}
use Rattle.tree_read.specs.Trees.{tree_pairs}
use Rattle.tree_read.specs.SearchPlaces.{first_key, first_value}
use Rattle.image_format.specs.Postings.{tree, list_form, IsPostingList}
use Rattle.image_format.specs.Values.{stored_value, IsValueRecord}
use Rattle.image_format.specs.Words.{weight_in_bits}
use Rattle.attr_types.specs.Lawful.{IsDocNumber}
use Rattle.attr_types.specs.ProofsForOrder.{value_cmp_total}
use Rattle.attr_types.specs.Value.{type_of, value_cmp}
use Rattle.attr_types.specs.declared.kind.ValueType.{ValueType}
use Rattle.attr_types.specs.declared.value.Value.{Value as AnyValue}
use Rattle.attr_compaction.specs.Places.{key_cmp}
use Rattle.attr_compaction.specs.declared.plan.PlanKey.{PlanKey}
use Rattle.attr_compaction.specs.declared.plan.PlanKey.TheVariants.{Pair}
use Rattle.enum_dictionary.specs.Dictionaries.{behind, beside_value}
use Rattle.posting_store.specs.Lists.{is_vector, IsList, IsPlain}
use Rattle.posting_store.specs.Moves.{form_docs}
use Rattle.posting_store.proofs.FormLemmas.{form_even, form_odd, plain_of, tree_at, tree_form}
use Rattle.value_index.specs.Indexes.{IsIndex, IsValuePair}
use Rattle.attr_compaction.specs.PhaseKeys.{first_item, key_past, keys_of_pairs, next_in_list, IsListPair}
use Rattle.posting_store.proofs.VectorLemmas.{counted_from}
use Rattle.attr_compaction.proofs.BlockLemmas.{vector_filled}
use Rattle.attr_compaction.proofs.NextLemmas.{lt_cmp, past_number}

-- ---- a list that is a tree, and one that is a record
pub short_docs : (m : Records) (word : ℕ) → IsPlain word → word % 2 ≡ 0 → form_docs m (list_form word) ≡ 0 ∷ []
short_docs m word plain even = ap (form_docs m) (form_even word plain even)

-- a list that is one record has no other key
pub short_past : (m : Records) (word doc : ℕ) → IsPlain word → word % 2 ≡ 0 → None ≡ find (nat_lt doc) (form_docs m (list_form word))
short_past m word doc plain even =
    sym (ap (λ (docs : List ℕ). find (nat_lt doc) docs) (short_docs m word plain even) ∙ ap {B = Option ℕ} (λ (b : Bool). cond b (Some zero) None) (le-ltb doc 0 (omega arith)))

module _ (m : Records) (word root : ℕ) (list : IsList m word) (plain : IsPlain word) (odd : word % 2 ≡ 1) (at : root ≡ word / 2) where
  word_is : word ≡ 2 * root + 1
  word_is = omega arith

  pub tree_docs : form_docs m (list_form word) ≡ map (λ p. p.0) (tree_pairs m root)
  tree_docs = ap (form_docs m) (form_odd word plain odd ∙ ap tree (sym at))

  pub tree_form_is : IsPostingList m (tree root)
  tree_form_is = tree_form m word root plain word_is list

  keyed : (ps : List (ℕ × ℕ)) → AllByRecursion IsDocNumber (keys_of (map (λ p. (p.0, weight_in_bits p.1)) ps))
      → AllByRecursion (λ p. p.0 < 2 ^ 32) ps
  keyed [] all = tt
  keyed (p ∷ ps) all = ((let few = all.0.1 in omega (arith, few)), keyed ps all.1)

  pub tree_numbers : AllByRecursion (λ p. p.0 < 2 ^ 32) (tree_pairs m root)
  tree_numbers = keyed (tree_pairs m root) (subst (λ (es : List (ℕ × ℤ)). AllByRecursion IsDocNumber (keys_of es)) (tree_at m word root plain word_is) list.numbers)

  pub first_tree : option_map (λ (p : ℕ × ℕ). p.0) (first_item (tree_pairs m root)) ≡ first_item (form_docs m (list_form word))
  first_tree = first_mapped (tree_pairs m root) ∙ sym (ap (λ (docs : List ℕ). first_item docs) tree_docs)
    where
      first_mapped : (ps : List (ℕ × ℕ)) → option_map (λ (p : ℕ × ℕ). p.0) (first_item ps) ≡ first_item (map (λ p. p.0) ps)
      first_mapped [] = refl
      first_mapped (p ∷ ps) = refl

  pub past_tree : (doc : ℕ) → option_map (λ (p : ℕ × ℕ). p.0) (first_item (seek (λ key. nat_cmp key (doc + 1)) (tree_pairs m root))) ≡ find (nat_lt doc) (form_docs m (list_form word))
  past_tree doc = past_mapped (tree_pairs m root) ∙ sym (ap (find (nat_lt doc)) tree_docs)
    where
      past_mapped : (ps : List (ℕ × ℕ)) → option_map (λ (p : ℕ × ℕ). p.0) (first_item (seek (λ key. nat_cmp key (doc + 1)) ps)) ≡ find (nat_lt doc) (map (λ p. p.0) ps)
      past_mapped [] = refl
      past_mapped (p ∷ ps) =
          (elim (nat_cmp p.0 (doc + 1)) as (λ o. nat_cmp p.0 (doc + 1) ≡ o
          → option_map (λ (q : ℕ × ℕ). q.0) (first_item (choose o (seek (λ key. nat_cmp key (doc + 1)) ps) (p ∷ ps) (p ∷ ps))) ≡ find (nat_lt doc) (map (λ q. q.0) (p ∷ ps))) [
            | Less ↦ λ e. past_mapped ps ∙ sym (ap (λ (b : Bool). cond b (Some p.0) (find (nat_lt doc) (map (λ q. q.0) ps))) (sym (lt_cmp doc p.0) ∙ past_number doc p.0 ∙ ap (λ o. not (is_lt o)) e))
            | Equal ↦ λ e. sym (ap (λ (b : Bool). cond b (Some p.0) (find (nat_lt doc) (map (λ q. q.0) ps))) (sym (lt_cmp doc p.0) ∙ past_number doc p.0 ∙ ap (λ o. not (is_lt o)) e))
            | Greater ↦ λ e. sym (ap (λ (b : Bool). cond b (Some p.0) (find (nat_lt doc) (map (λ q. q.0) ps))) (sym (lt_cmp doc p.0) ∙ past_number doc p.0 ∙ ap (λ o. not (is_lt o)) e))
          ]) refl

-- each list has a document
plain_filled : (m : Records) (word : ℕ) → IsList m word → IsPlain word → 0 < length (form_docs m (list_form word))
plain_filled m word list plain = told (word % 2) refl
  where
    told : (bit : ℕ) → word % 2 ≡ bit → 0 < length (form_docs m (list_form word))
    told zero is = subst {A = List ℕ} (λ docs. 0 < length docs) (sym (short_docs m word plain is)) (omega arith)
    told (suc zero) is =
        let root : ℕ = word / 2 in
        let posting = tree_form_is m word root list plain is refl in
        let many = posting.1 in
        let size = length-map (tree_pairs m root) (λ (p : ℕ × ℕ). p.0) in
        subst {A = List ℕ} (λ docs. 0 < length docs) (sym (tree_docs m word root list plain is refl)) (omega arith)
    told (suc (suc bit)) is = absurd (omega arith)

pub docs_filled : (m : Records) (word : ℕ) → IsList m word → 0 < length (form_docs m (list_form word))
docs_filled m word list = told (is_vector word) refl
  where
    told : (t : Bool) → is_vector word ≡ t → 0 < length (form_docs m (list_form word))
    told true is = vector_filled m word (word - 8589934592) list (counted_from word is)
    told false is = plain_filled m word list (plain_of word is)

-- ---- the first key of pairs
module _ (type : ValueType) (m : Records) where
  abbrev keys_at : ℕ × ℕ → List PlanKey
  keys_at p = map (λ doc. Pair (stored_value type m p.0) doc) (form_docs m (list_form p.1))

  first_of_pair : (value : AnyValue) (docs : List ℕ) (rest : List PlanKey) → 0 < length docs
      → first_item (map (λ doc. Pair value doc) docs ++ rest) ≡ option_map (λ (doc : ℕ). Pair value doc) (first_item docs)
  first_of_pair value [] rest some = absurd (omega arith)
  first_of_pair value (d ∷ docs) rest some = refl

  pub no_pairs : (ps : List (ℕ × ℕ)) → ps ≡ [] → None ≡ first_item (keys_of_pairs type m ps)
  no_pairs [] none = refl
  no_pairs (p ∷ ps) none = absurd (grind (arith, none))

  pub first_pair_is : (ps : List (ℕ × ℕ)) → ps ≢ [] → AllByRecursion (IsListPair type m) ps → (key list : ℕ) → key ≡ first_key ps → list ≡ first_value ps
      → option_map (λ (doc : ℕ). Pair (stored_value type m key) doc) (first_item (form_docs m (list_form list))) ≡ first_item (keys_of_pairs type m ps)
  first_pair_is [] some all key list at value = absurd (some refl)
  first_pair_is (p ∷ ps) some all key list at value =
      let pair = all.0.pair_is in
      let filled = docs_filled m p.1 pair.list_is in
      ap (λ (k : ℕ). option_map (λ (doc : ℕ). Pair (stored_value type m k) doc) (first_item (form_docs m (list_form list)))) at
      ∙ ap (λ (w : ℕ). option_map (λ (doc : ℕ). Pair (stored_value type m p.0) doc) (first_item (form_docs m (list_form w)))) value
      ∙ sym (first_of_pair (stored_value type m p.0) (form_docs m (list_form p.1)) (keys_of_pairs type m ps) filled)

  -- ---- the first that passes a test
  find_after : (test : PlanKey → Bool) (xs ys : List PlanKey) → find test xs ≡ None → find test (xs ++ ys) ≡ find test ys
  find_after test [] ys none = refl
  find_after test (x ∷ xs) ys none =
      (elim (test x) as (λ b. cond b (Some x) (find test xs) ≡ None → cond b (Some x) (find test (xs ++ ys)) ≡ find test ys) [
        | true ↦ λ h. absurd (grind (arith, h))
        | false ↦ λ h. find_after test xs ys h
      ]) none

  find_here : (test : PlanKey → Bool) (xs ys : List PlanKey) (k : PlanKey) → find test xs ≡ Some k → find test (xs ++ ys) ≡ Some k
  find_here test [] ys k some = absurd (grind (arith, some))
  find_here test (x ∷ xs) ys k some =
      (elim (test x) as (λ b. cond b (Some x) (find test xs) ≡ Some k → cond b (Some x) (find test (xs ++ ys)) ≡ Some k) [
        | true ↦ λ h. h
        | false ↦ λ h. find_here test xs ys k h
      ]) some

  none_in : (test : PlanKey → Bool) (value : AnyValue) → ((doc : ℕ) → test (Pair value doc) ≡ false) → (docs : List ℕ) → find test (map (λ doc. Pair value doc) docs) ≡ None
  none_in test value none [] = refl
  none_in test value none (d ∷ docs) =
      ap (λ (b : Bool). cond b (Some (Pair value d)) (find test (map (λ doc. Pair value doc) docs))) (none d) ∙ none_in test value none docs

  same_in : (test : PlanKey → Bool) (value : AnyValue) (doc : ℕ) → ((e : ℕ) → test (Pair value e) ≡ nat_lt doc e) → (docs : List ℕ)
      → find test (map (λ e. Pair value e) docs) ≡ option_map (λ (e : ℕ). Pair value e) (find (nat_lt doc) docs)
  same_in test value doc same [] = refl
  same_in test value doc same (d ∷ docs) =
      (elim (nat_lt doc d) as (λ b. nat_lt doc d ≡ b
      → cond (test (Pair value d)) (Some (Pair value d)) (find test (map (λ e. Pair value e) docs)) ≡ option_map (λ (e : ℕ). Pair value e) (cond b (Some d) (find (nat_lt doc) docs))) [
        | true ↦ λ is. ap (λ (b : Bool). cond b (Some (Pair value d)) (find test (map (λ e. Pair value e) docs))) (same d ∙ is)
        | false ↦ λ is. ap (λ (b : Bool). cond b (Some (Pair value d)) (find test (map (λ e. Pair value e) docs))) (same d ∙ is) ∙ same_in test value doc same docs
      ]) refl

  pub first_passes : (test : PlanKey → Bool) → ((value : AnyValue) (doc : ℕ) → test (Pair value doc) ≡ true) → (ps : List (ℕ × ℕ)) → AllByRecursion (IsListPair type m) ps
      → first_item (keys_of_pairs type m ps) ≡ find test (keys_of_pairs type m ps)
  first_passes test all [] are = refl
  first_passes test all (p ∷ ps) are =
      let pair = are.0.pair_is in first (form_docs m (list_form p.1)) (docs_filled m p.1 pair.list_is)
    where
      first : (docs : List ℕ) → 0 < length docs → first_item (map (λ doc. Pair (stored_value type m p.0) doc) docs ++ keys_of_pairs type m ps)
          ≡ find test (map (λ doc. Pair (stored_value type m p.0) doc) docs ++ keys_of_pairs type m ps)
      first [] some = absurd (omega arith)
      first (d ∷ docs) some = sym (ap (λ (b : Bool). cond b (Some (Pair (stored_value type m p.0) d)) (find test (map (λ doc. Pair (stored_value type m p.0) doc) docs ++ keys_of_pairs type m ps)))
          (all (stored_value type m p.0) d))

  first_passes_at : (test : PlanKey → Bool) (p : ℕ × ℕ) (ps : List (ℕ × ℕ)) → ((doc : ℕ) → test (Pair (stored_value type m p.0) doc) ≡ true) → IsListPair type m p
      → find test (keys_of_pairs type m (p ∷ ps)) ≡ first_item (keys_of_pairs type m (p ∷ ps))
  first_passes_at test p ps all is = first (form_docs m (list_form p.1)) (docs_filled m p.1 is.pair_is.list_is)
    where
      first : (docs : List ℕ) → 0 < length docs → find test (map (λ doc. Pair (stored_value type m p.0) doc) docs ++ keys_of_pairs type m ps)
          ≡ first_item (map (λ doc. Pair (stored_value type m p.0) doc) docs ++ keys_of_pairs type m ps)
      first [] some = absurd (omega arith)
      first (d ∷ docs) some = ap (λ (b : Bool). cond b (Some (Pair (stored_value type m p.0) d)) (find test (map (λ doc. Pair (stored_value type m p.0) doc) docs ++ keys_of_pairs type m ps))) (all d)

-- ---- past a document in the list of a value
pub beside_pair : (v w : AnyValue) (d e : ℕ) (o : Ordering) → value_cmp w v ≡ o → key_cmp (Pair v d) (Pair w e) ≡ ordering_then (ordering_reverse o) (nat_cmp d e)
beside_pair v w d e o is = ap (λ (x : Ordering). ordering_then x (nat_cmp d e)) (value_cmp_total.antisymm v w ∙ ap ordering_reverse is)

module _ (type : ValueType) (m : Records) (value : AnyValue) (typed : type_of value ≡ type) (doc : ℕ) where
  abbrev pub against : ℕ → Ordering
  against = beside_value value m

  abbrev pub tested : PlanKey → Bool
  tested next = is_lt (key_cmp (Pair value doc) next)

  seen : (k : ℕ) → value_cmp (stored_value type m k) value ≡ against k
  seen k = ap (λ (t : ValueType). value_cmp (stored_value t m k) value) (sym typed)

  passes : (k : ℕ) (o : Ordering) → against k ≡ o → (e : ℕ) → tested (Pair (stored_value type m k) e) ≡ is_lt (ordering_then (ordering_reverse o) (nat_cmp doc e))
  passes k o is e = ap is_lt (beside_pair value (stored_value type m k) doc e o (seen k ∙ is))

  abbrev either : Option PlanKey → Option PlanKey → Option PlanKey
  either None second = second
  either (Some k) second = Some k

  -- behind an equal value all are above
  rest_first : (k : ℕ) (ps : List (ℕ × ℕ)) → against k ≡ Equal → AllByRecursion (λ x. value_cmp (stored_value type m k) x ≡ Less) (map (λ p. stored_value type m p.0) ps)
      → AllByRecursion (IsListPair type m) ps → find tested (keys_of_pairs type m ps) ≡ first_item (keys_of_pairs type m (behind against ps))
  rest_first k [] is above all = refl
  rest_first k (q ∷ ps) is above all =
      let greater : against q.0 ≡ Greater = sym (seen q.0) ∙ value_cmp_total.antisymm (stored_value type m q.0) value
      ∙ ap ordering_reverse (sym (value_cmp_total.congr (stored_value type m k) value (stored_value type m q.0) (seen k ∙ is)) ∙ above.0) in
      first_passes_at type m tested q ps (λ e. passes q.0 Greater greater e) all.0
      ∙ sym (ap (λ (o : Ordering). first_item (keys_of_pairs type m (choose o (behind against ps) (behind against ps) (q ∷ ps)))) greater)

  both : (xs ys : List PlanKey) (first second : Option PlanKey) → find tested xs ≡ first → find tested ys ≡ second → find tested (xs ++ ys) ≡ either first second
  both xs ys None second one two = find_after type m tested xs ys one ∙ two
  both xs ys (Some k) second one two = find_here type m tested xs ys k one

  past_pairs : (ps : List (ℕ × ℕ)) → IsStrictlySortedBy value_cmp (map (λ p. stored_value type m p.0) ps) → AllByRecursion (IsListPair type m) ps
      → find tested (keys_of_pairs type m ps) ≡ either (next_in_list type m doc (lookup_pair against ps)) (first_item (keys_of_pairs type m (behind against ps)))
  unfolding IsStrictlySortedBy
  past_pairs [] up all = refl
  past_pairs (p ∷ ps) up all =
      (elim (against p.0) as (λ o. against p.0 ≡ o → find tested (keys_of_pairs type m (p ∷ ps))
      ≡ either (next_in_list type m doc (choose o (lookup_pair against ps) (Some p) None)) (first_item (keys_of_pairs type m (choose o (behind against ps) (behind against ps) (p ∷ ps))))) [
        | Less ↦ λ is. find_after type m tested (keys_at type m p) (keys_of_pairs type m ps) (none_in type m tested (stored_value type m p.0) (λ e. passes p.0 Less is e) (form_docs m (list_form p.1)))
            ∙ past_pairs ps up.1 all.1
        | Equal ↦ λ is. both (keys_at type m p) (keys_of_pairs type m ps) (next_in_list type m doc (Some p)) (first_item (keys_of_pairs type m (behind against ps)))
            (same_in type m tested (stored_value type m p.0) doc (λ e. passes p.0 Equal is e ∙ lt_cmp doc e) (form_docs m (list_form p.1)))
            (rest_first p.0 ps is up.0 all.1)
        | Greater ↦ λ is. first_passes_at type m tested p ps (λ e. passes p.0 Greater is e) all.0
      ]) refl

  pub found_now : (ps : List (ℕ × ℕ)) → IsStrictlySortedBy value_cmp (map (λ p. stored_value type m p.0) ps) → AllByRecursion (IsListPair type m) ps → (k : PlanKey)
      → Some k ≡ next_in_list type m doc (lookup_pair against ps) → Some k ≡ find tested (keys_of_pairs type m ps)
  found_now ps up all k is = sym (past_pairs ps up all ∙ ap (λ (o : Option PlanKey). either o (first_item (keys_of_pairs type m (behind against ps)))) (sym is))

  pub found_later : (ps : List (ℕ × ℕ)) → IsStrictlySortedBy value_cmp (map (λ p. stored_value type m p.0) ps) → AllByRecursion (IsListPair type m) ps
      → None ≡ next_in_list type m doc (lookup_pair against ps) → first_item (keys_of_pairs type m (behind against ps)) ≡ find tested (keys_of_pairs type m ps)
  found_later ps up all is = sym (past_pairs ps up all ∙ ap (λ (o : Option PlanKey). either o (first_item (keys_of_pairs type m (behind against ps)))) (sym is))

-- the pairs of an index
pub list_pairs : (type : ValueType) (m : Records) (root : ℕ) → IsIndex type m root → AllByRecursion (IsListPair type m) (tree_pairs m root)
list_pairs type m root is = each (tree_pairs m root) is.dictionary_is.keys is.pairs
  where
    each : (ps : List (ℕ × ℕ)) → AllByRecursion (λ p. IsValueRecord type (m p.0)) ps → AllByRecursion (IsValuePair m) ps → AllByRecursion (IsListPair type m) ps
    each [] values lists = tt
    each (p ∷ ps) values lists = (record { record_is = values.0; pair_is = lists.0 }, each ps values.1 lists.1)

-- ---- keys of two trees, one after another
pub node_now : (key k : PlanKey) (type : ValueType) (m : Records) (xs ys : List PlanKey) → Some k ≡ key_past key xs → Some k ≡ key_past key (xs ++ ys)
node_now key k type m xs ys is = sym (find_here type m (λ next. is_lt (key_cmp key next)) xs ys k (sym is))

pub node_later : (key : PlanKey) (type : ValueType) (m : Records) (xs ys : List PlanKey) → None ≡ key_past key xs → key_past key ys ≡ key_past key (xs ++ ys)
node_later key type m xs ys is = sym (find_after type m (λ next. is_lt (key_cmp key next)) xs ys (sym is))
