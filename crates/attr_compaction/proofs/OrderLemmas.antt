-- The keys of a phase ascend.
use Rattle.std.proofs.Common.{◌≡◌, ℕ, ℤ, zero, suc, ◌+◌, ◌-◌, ◌*◌, ◌/◌, ◌%◌, Bool, true, false, cond, nat_eq, List, [], ◌∷◌, ◌++◌, map, Less, nat_cmp, refl, sym, ap, subst, ◌∙◌, arith}
use Rattle.std.proofs.lemmas.Cmp.{tied_itself}
use Rattle.std.specs.declared.cmp.Ordering.{Ordering}
use Rattle.std.specs.List.{AllByRecursion}
use Rattle.std.specs.List.Sorted.{IsStrictlySortedBy}
use Rattle.std.specs.Map.{keys_of}
use Rattle.std.specs.Ordering.{ordering_then}
use Rattle.list_lemmas.proofs.Each.{AllByRecursion-append}
use Rattle.entry_ref.specs.Records.{Records}
use Rattle.tree_read.specs.Trees.{tree_pairs}
use Rattle.image_format.specs.Postings.{list_form}
use Rattle.image_format.specs.Values.{stored_value}
use Rattle.image_format.specs.Words.{weight_in_bits}
use Rattle.attr_types.specs.ProofsForOrder.{value_cmp_total}
use Rattle.attr_types.specs.Value.{value_cmp}
use Rattle.attr_types.specs.declared.kind.ValueType.{ValueType}
use Rattle.attr_types.specs.declared.value.Value.{Value as AnyValue}
use Rattle.attr_compaction.specs.Places.{key_cmp}
use Rattle.attr_compaction.specs.declared.plan.PlanKey.{PlanKey}
use Rattle.attr_compaction.specs.declared.plan.PlanKey.TheVariants.{Value, Doc, Pair}
use Rattle.posting_store.specs.Lists.{is_vector, IsList, IsPlain}
use Rattle.posting_store.specs.Moves.{form_docs}
use Rattle.posting_store.proofs.FormLemmas.{plain_of, tree_at}
use Rattle.value_index.specs.Indexes.{IsValuePair}
use Rattle.attr_compaction.specs.KeysLaws.{PhaseKeysAscend}
use Rattle.attr_compaction.specs.PhaseKeys.{document_keys, keys_of_pairs, node_phase_keys, pair_keys, value_keys}
use Rattle.posting_store.proofs.VectorLemmas.{counted_from}
use Rattle.attr_compaction.proofs.BlockLemmas.{vector_ascends}
use Rattle.attr_compaction.proofs.ListLemmas.{short_docs, tree_docs}

abbrev Up : List PlanKey → Type 0
Up keys = IsStrictlySortedBy key_cmp keys

-- ---- keys made of what ascends
module _ {A V : Type 0} (order : V → V → Ordering) (g : A → V) (f : A → PlanKey) (step : (p q : A) → order (g p) (g q) ≡ Less → key_cmp (f p) (f q) ≡ Less) where
  all_above : (p : A) (ps : List A) → AllByRecursion (λ w. order (g p) w ≡ Less) (map g ps) → AllByRecursion (λ k. key_cmp (f p) k ≡ Less) (map f ps)
  all_above p [] all = tt
  all_above p (q ∷ ps) all = (step p q all.0, all_above p ps all.1)

  ascend_map : (ps : List A) → IsStrictlySortedBy order (map g ps) → Up (map f ps)
  unfolding IsStrictlySortedBy
  ascend_map [] up = tt
  ascend_map (p ∷ ps) up = (all_above p ps up.0, ascend_map ps up.1)

ascend_both : (xs ys : List PlanKey) → Up xs → Up ys → AllByRecursion (λ x. AllByRecursion (λ y. key_cmp x y ≡ Less) ys) xs → Up (xs ++ ys)
unfolding IsStrictlySortedBy
ascend_both [] ys front behind cross = behind
ascend_both (x ∷ xs) ys front behind cross = (AllByRecursion-append (λ y. key_cmp x y ≡ Less) xs ys front.0 cross.0, ascend_both xs ys front.1 behind cross.1)

-- ---- values and documents
module _ (type : ValueType) (m : Records) where
  abbrev read : ℕ × ℕ → AnyValue
  read p = stored_value type m p.0

  pub values_ascend : (ps : List (ℕ × ℕ)) → IsStrictlySortedBy value_cmp (map read ps) → Up (map (λ p. Value (stored_value type m p.0)) ps)
  values_ascend ps up = ascend_map value_cmp read (λ p. Value (stored_value type m p.0)) (λ p q less. ap (λ (o : Ordering). ordering_then o (nat_cmp 0 0)) less) ps up

  pub documents_ascend : (ps : List (ℕ × ℕ)) → IsStrictlySortedBy nat_cmp (map (λ p. p.0) ps) → Up (map (λ p. Doc p.0) ps)
  documents_ascend ps up = ascend_map nat_cmp (λ (p : ℕ × ℕ). p.0) (λ p. Doc p.0) (λ p q less. less) ps up

  values_before : (ps qs : List (ℕ × ℕ)) → AllByRecursion (λ x. AllByRecursion (λ y. key_cmp x y ≡ Less) (map (λ p. Doc p.0) qs)) (map (λ p. Value (stored_value type m p.0)) ps)
  values_before [] qs = tt
  values_before (p ∷ ps) qs = (each qs, values_before ps qs)
    where
      each : (rs : List (ℕ × ℕ)) → AllByRecursion (λ y. key_cmp (Value (stored_value type m p.0)) y ≡ Less) (map (λ q. Doc q.0) rs)
      each [] = tt
      each (r ∷ rs) = (refl, each rs)

  pub nodes_ascend : (ps qs : List (ℕ × ℕ)) → IsStrictlySortedBy value_cmp (map read ps) → IsStrictlySortedBy nat_cmp (map (λ p. p.0) qs)
      → Up (map (λ p. Value (stored_value type m p.0)) ps ++ map (λ p. Doc p.0) qs)
  nodes_ascend ps qs values documents =
      ascend_both (map (λ p. Value (stored_value type m p.0)) ps) (map (λ p. Doc p.0) qs) (values_ascend ps values) (documents_ascend qs documents) (values_before ps qs)

  -- ---- documents in lists
  same_map : (ds : List ℕ) → map (λ (d : ℕ). d) ds ≡ ds
  same_map [] = refl
  same_map (d ∷ ds) = ap (λ xs. d ∷ xs) (same_map ds)

  in_list : (value : AnyValue) (docs : List ℕ) → IsStrictlySortedBy nat_cmp docs → Up (map (λ doc. Pair value doc) docs)
  in_list value docs up =
      ascend_map nat_cmp (λ (d : ℕ). d) (λ doc. Pair value doc)
      (λ d e less. ap (λ (o : Ordering). ordering_then o (nat_cmp d e)) (tied_itself value_cmp_total value) ∙ less) docs (subst (λ (ds : List ℕ). IsStrictlySortedBy nat_cmp ds) (sym (same_map docs)) up)

  above_list : (value : AnyValue) (doc : ℕ) (other : AnyValue) → value_cmp value other ≡ Less → (docs : List ℕ) → AllByRecursion (λ k. key_cmp (Pair value doc) k ≡ Less) (map (λ e. Pair other e) docs)
  above_list value doc other less [] = tt
  above_list value doc other less (e ∷ docs) = (ap (λ (o : Ordering). ordering_then o (nat_cmp doc e)) less, above_list value doc other less docs)

  above_pairs : (value : AnyValue) (doc : ℕ) (ps : List (ℕ × ℕ)) → AllByRecursion (λ w. value_cmp value w ≡ Less) (map read ps)
      → AllByRecursion (λ k. key_cmp (Pair value doc) k ≡ Less) (keys_of_pairs type m ps)
  above_pairs value doc [] all = tt
  above_pairs value doc (p ∷ ps) all =
      AllByRecursion-append (λ k. key_cmp (Pair value doc) k ≡ Less) (map (λ e. Pair (stored_value type m p.0) e) (form_docs m (list_form p.1))) (keys_of_pairs type m ps)
      (above_list value doc (stored_value type m p.0) all.0 (form_docs m (list_form p.1))) (above_pairs value doc ps all.1)

  all_pairs_above : (value : AnyValue) (docs : List ℕ) (ps : List (ℕ × ℕ)) → AllByRecursion (λ w. value_cmp value w ≡ Less) (map read ps)
      → AllByRecursion (λ x. AllByRecursion (λ y. key_cmp x y ≡ Less) (keys_of_pairs type m ps)) (map (λ doc. Pair value doc) docs)
  all_pairs_above value [] ps all = tt
  all_pairs_above value (d ∷ docs) ps all = (above_pairs value d ps all, all_pairs_above value docs ps all)

  one_ascends : IsStrictlySortedBy nat_cmp (0 ∷ [])
  unfolding IsStrictlySortedBy
  one_ascends = (tt, tt)

  plain_keys : (ps : List (ℕ × ℕ)) → keys_of (map (λ p. (p.0, weight_in_bits p.1)) ps) ≡ map (λ p. p.0) ps
  plain_keys [] = refl
  plain_keys (p ∷ ps) = ap (λ ks. p.0 ∷ ks) (plain_keys ps)

  plain_ascend : (word : ℕ) → IsList m word → IsPlain word → IsStrictlySortedBy nat_cmp (form_docs m (list_form word))
  plain_ascend word list plain = told (word % 2) refl
    where
      told : (bit : ℕ) → word % 2 ≡ bit → IsStrictlySortedBy nat_cmp (form_docs m (list_form word))
      told zero is = subst (λ (ds : List ℕ). IsStrictlySortedBy nat_cmp ds) (sym (short_docs m word plain is)) one_ascends
      told (suc zero) is =
          let root : ℕ = word / 2 in
          let at : word ≡ 2 * root + 1 = omega (arith, is) in
          subst (λ (ds : List ℕ). IsStrictlySortedBy nat_cmp ds) (sym (tree_docs m word root list plain is refl))
          (subst (λ (ds : List ℕ). IsStrictlySortedBy nat_cmp ds) (plain_keys (tree_pairs m root))
          (subst (λ (es : List (ℕ × ℤ)). IsStrictlySortedBy nat_cmp (keys_of es)) (tree_at m word root plain at) list.ascends))
      told (suc (suc bit)) is = absurd (omega (arith, is))

  docs_ascend : (word : ℕ) → IsList m word → IsStrictlySortedBy nat_cmp (form_docs m (list_form word))
  docs_ascend word list = told (is_vector word) refl
    where
      told : (t : Bool) → is_vector word ≡ t → IsStrictlySortedBy nat_cmp (form_docs m (list_form word))
      told true is = vector_ascends m word (word - 8589934592) list (counted_from word is)
      told false is = plain_ascend word list (plain_of word is)

  pub lists_ascend : (ps : List (ℕ × ℕ)) → IsStrictlySortedBy value_cmp (map read ps) → AllByRecursion (IsValuePair m) ps → Up (keys_of_pairs type m ps)
  unfolding IsStrictlySortedBy
  lists_ascend [] up are = tt
  lists_ascend (p ∷ ps) up are =
      ascend_both (map (λ doc. Pair (stored_value type m p.0) doc) (form_docs m (list_form p.1))) (keys_of_pairs type m ps)
      (in_list (stored_value type m p.0) (form_docs m (list_form p.1)) (docs_ascend p.1 are.0.list_is)) (lists_ascend ps up.1 are.1)
      (all_pairs_above (stored_value type m p.0) (form_docs m (list_form p.1)) ps up.0)

pub phase_ascends : PhaseKeysAscend
phase_ascends type m documents dictionary phase map_is is = told (nat_eq phase 0) (nat_eq phase 1) (nat_eq phase 2)
  where
    told : (a b c : Bool) → Up (cond a (value_keys type m dictionary) (cond b (document_keys m documents) (cond c (pair_keys type m dictionary) (node_phase_keys type m documents dictionary))))
    told true b c = values_ascend type m (tree_pairs m dictionary) is.dictionary_is.tree_is.ascends
    told false true c = documents_ascend type m (tree_pairs m documents) map_is.tree_is.ascends
    told false false true = lists_ascend type m (tree_pairs m dictionary) is.dictionary_is.tree_is.ascends is.pairs
    told false false false = nodes_ascend type m (tree_pairs m dictionary) (tree_pairs m documents) is.dictionary_is.tree_is.ascends map_is.tree_is.ascends
