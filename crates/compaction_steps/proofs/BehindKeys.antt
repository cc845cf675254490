-- The keys of a phase behind one of them, by the pairs of its tree.
use Rattle.std.proofs.Common.{◌≡◌, ℕ, zero, suc, ◌+◌, ◌%◌, Bool, false, cond, not, List, [], ◌∷◌, ◌++◌, map, take, drop, None, Some, Less, Equal, Greater, is_lt, nat_cmp, refl, sym, ap, ◌∙◌, arith}
use Rattle.std.proofs.lemmas.Bool.{le-ltb}
use Rattle.std.specs.declared.cmp.Ordering.{Ordering}
use Rattle.std.specs.List.{AllByRecursion}
use Rattle.std.specs.List.Sorted.{IsStrictlySortedBy}
use Rattle.std.specs.Ordering.{is_gt, ordering_reverse, ordering_then}
use Rattle.list_lemmas.proofs.Each.{AllByRecursion-append}
use Rattle.entry_ref.specs.Records.{Records}
use Rattle.tree_read.specs.Pairs.{choose, lookup_pair, seek}
use Rattle.image_format.specs.Postings.{ListForm, short, tree, vector, list_form}
use Rattle.image_format.specs.Values.{stored_value}
use Rattle.attr_types.specs.ProofsForOrder.{value_cmp_total}
use Rattle.attr_types.specs.Value.{type_of, value_cmp}
use Rattle.attr_types.specs.declared.kind.ValueType.{ValueType}
use Rattle.attr_types.specs.declared.value.Value.{Value as AnyValue}
use Rattle.attr_compaction.specs.Places.{key_cmp}
use Rattle.attr_compaction.specs.declared.plan.PlanKey.{PlanKey}
use Rattle.attr_compaction.specs.declared.plan.PlanKey.TheVariants.{Value, Doc, Pair}
use Rattle.enum_dictionary.specs.Dictionaries.{behind, beside_value}
use Rattle.attr_compaction.proofs.ListLemmas.{beside_pair, short_docs}
use Rattle.attr_compaction.proofs.NextLemmas.{lt_cmp, past_number}
use Rattle.attr_compaction.specs.PhaseKeys.{keys_of_pairs, IsListPair}
use Rattle.posting_store.specs.Lists.{IsPlain}
use Rattle.posting_store.specs.Moves.{form_docs}
use Rattle.compaction_steps.specs.Sights.{IsRecordApart}
use Rattle.compaction_steps.proofs.Through.{keys_behind, past, whole_behind}

-- ---- keys made of pairs
module _ (f : ℕ × ℕ → PlanKey) (key : PlanKey) (c : ℕ → Ordering) where
  pub map_behind : ((p : ℕ × ℕ) → past key (f p) ≡ is_gt (c p.0)) → (ps : List (ℕ × ℕ)) → keys_behind key (map f ps) ≡ map f (behind c ps)
  map_behind same [] = refl
  map_behind same (p ∷ ps) =
      (elim (c p.0) as (λ o. c p.0 ≡ o → keys_behind key (map f (p ∷ ps)) ≡ map f (choose o (behind c ps) (behind c ps) (p ∷ ps))) [
        | Less ↦ λ e. ap (λ (t : Bool). cond t (map f (p ∷ ps)) (keys_behind key (map f ps))) (same p ∙ ap is_gt e) ∙ map_behind same ps
        | Equal ↦ λ e. ap (λ (t : Bool). cond t (map f (p ∷ ps)) (keys_behind key (map f ps))) (same p ∙ ap is_gt e) ∙ map_behind same ps
        | Greater ↦ λ e. ap (λ (t : Bool). cond t (map f (p ∷ ps)) (keys_behind key (map f ps))) (same p ∙ ap is_gt e)
      ]) refl

  pub map_seek : ((p : ℕ × ℕ) → past key (f p) ≡ not (is_lt (c p.0))) → (ps : List (ℕ × ℕ)) → keys_behind key (map f ps) ≡ map f (seek c ps)
  map_seek same [] = refl
  map_seek same (p ∷ ps) =
      (elim (c p.0) as (λ o. c p.0 ≡ o → keys_behind key (map f (p ∷ ps)) ≡ map f (choose o (seek c ps) (p ∷ ps) (p ∷ ps))) [
        | Less ↦ λ e. ap (λ (t : Bool). cond t (map f (p ∷ ps)) (keys_behind key (map f ps))) (same p ∙ ap (λ o. not (is_lt o)) e) ∙ map_seek same ps
        | Equal ↦ λ e. ap (λ (t : Bool). cond t (map f (p ∷ ps)) (keys_behind key (map f ps))) (same p ∙ ap (λ o. not (is_lt o)) e)
        | Greater ↦ λ e. ap (λ (t : Bool). cond t (map f (p ∷ ps)) (keys_behind key (map f ps))) (same p ∙ ap (λ o. not (is_lt o)) e)
      ]) refl

-- ---- values beside each other
turned_lt : (o : Ordering) → is_lt (ordering_reverse o) ≡ is_gt o
turned_lt Less = refl
turned_lt Equal = refl
turned_lt Greater = refl

then_tied : (o : Ordering) → ordering_then o (nat_cmp 0 0) ≡ o
then_tied Less = refl
then_tied Equal = refl
then_tied Greater = refl

past_value : (v w : AnyValue) → past (Value v) (Value w) ≡ is_gt (value_cmp w v)
past_value v w = ap is_lt (then_tied (value_cmp v w) ∙ value_cmp_total.antisymm v w) ∙ turned_lt (value_cmp w v)

module _ (type : ValueType) (m : Records) (value : AnyValue) (typed : type_of value ≡ type) where
  abbrev pub as_value : ℕ × ℕ → PlanKey
  as_value p = Value (stored_value type m p.0)

  pub values_behind : (ps : List (ℕ × ℕ)) → keys_behind (Value value) (map as_value ps) ≡ map as_value (behind (beside_value value m) ps)
  values_behind ps = map_behind as_value (Value value) (beside_value value m)
      (λ p. past_value value (stored_value type m p.0) ∙ ap (λ (t : ValueType). is_gt (value_cmp (stored_value t m p.0) value)) (sym typed)) ps

pub docs_behind : (doc : ℕ) (ps : List (ℕ × ℕ)) → keys_behind (Doc doc) (map (λ p. Doc p.0) ps) ≡ map (λ p. Doc p.0) (seek (λ key. nat_cmp key (doc + 1)) ps)
docs_behind doc ps = map_seek (λ p. Doc p.0) (Doc doc) (λ key. nat_cmp key (doc + 1)) (λ p. past_number doc p.0) ps

-- ---- lists
module _ (type : ValueType) (m : Records) (value : AnyValue) (typed : type_of value ≡ type) (doc : ℕ) where
  abbrev key : PlanKey
  key = Pair value doc

  abbrev against : ℕ → Ordering
  against = beside_value value m

  abbrev read : ℕ × ℕ → AnyValue
  read p = stored_value type m p.0

  abbrev keys_at : ℕ × ℕ → List PlanKey
  keys_at p = map (λ d. Pair (stored_value type m p.0) d) (form_docs m (list_form p.1))

  pub seen : (k : ℕ) → value_cmp (stored_value type m k) value ≡ against k
  seen k = ap (λ (t : ValueType). value_cmp (stored_value t m k) value) (sym typed)

  above : (w : AnyValue) (d : ℕ) → value_cmp value w ≡ Less → key_cmp key (Pair w d) ≡ Less
  above w d less = ap (λ (o : Ordering). ordering_then o (nat_cmp doc d)) less

  above_list : (w : AnyValue) → value_cmp value w ≡ Less → (docs : List ℕ) → AllByRecursion (λ k. key_cmp key k ≡ Less) (map (λ d. Pair w d) docs)
  above_list w less [] = tt
  above_list w less (d ∷ docs) = (above w d less, above_list w less docs)

  above_pairs : (ps : List (ℕ × ℕ)) → AllByRecursion (λ w. value_cmp value w ≡ Less) (map read ps) → AllByRecursion (λ k. key_cmp key k ≡ Less) (keys_of_pairs type m ps)
  above_pairs [] all = tt
  above_pairs (p ∷ ps) all =
      AllByRecursion-append (λ k. key_cmp key k ≡ Less) (keys_at p) (keys_of_pairs type m ps) (above_list (read p) all.0 (form_docs m (list_form p.1))) (above_pairs ps all.1)

  less_back : (w : AnyValue) → value_cmp w value ≡ Greater → value_cmp value w ≡ Less
  less_back w greater = value_cmp_total.antisymm value w ∙ ap ordering_reverse greater

  greater_back : (w : AnyValue) → value_cmp value w ≡ Less → value_cmp w value ≡ Greater
  greater_back w less = value_cmp_total.antisymm w value ∙ ap ordering_reverse less

  whole_pairs : (ps : List (ℕ × ℕ)) → AllByRecursion (λ w. value_cmp value w ≡ Less) (map read ps) → behind against ps ≡ ps
  whole_pairs [] all = refl
  whole_pairs (p ∷ ps) all =
      ap (λ (o : Ordering). choose o (behind against ps) (behind against ps) (p ∷ ps)) (sym (seen p.0) ∙ greater_back (read p) all.0)

  -- all above the value
  all_behind : (ps : List (ℕ × ℕ)) → AllByRecursion (λ w. value_cmp value w ≡ Less) (map read ps) → keys_behind key (keys_of_pairs type m ps) ≡ keys_of_pairs type m (behind against ps)
  all_behind ps all = whole_behind key (keys_of_pairs type m ps) (above_pairs ps all) ∙ ap (keys_of_pairs type m) (sym (whole_pairs ps all))

  -- what is above a value that is not below is above
  trans_all : (w : AnyValue) (ws : List AnyValue) → ((x : AnyValue) → value_cmp w x ≡ Less → value_cmp value x ≡ Less) → AllByRecursion (λ x. value_cmp w x ≡ Less) ws
      → AllByRecursion (λ x. value_cmp value x ≡ Less) ws
  trans_all w [] step all = tt
  trans_all w (x ∷ ws) step all = (step x all.0, trans_all w ws step all.1)

  -- keys that are not past it
  pub skipped : (xs ys : List PlanKey) → AllByRecursion (λ k. past key k ≡ false) xs → keys_behind key (xs ++ ys) ≡ keys_behind key ys
  skipped [] ys none = refl
  skipped (x ∷ xs) ys none = ap (λ (t : Bool). cond t (x ∷ (xs ++ ys)) (keys_behind key (xs ++ ys))) none.0 ∙ skipped xs ys none.1

  pub not_past : (w : AnyValue) → value_cmp w value ≡ Less → (docs : List ℕ) → AllByRecursion (λ k. past key k ≡ false) (map (λ d. Pair w d) docs)
  not_past w less [] = tt
  not_past w less (d ∷ docs) = (ap is_lt (beside_pair value w doc d Less less), not_past w less docs)

  none_of_one : (w : AnyValue) → value_cmp w value ≡ Equal → past key (Pair w 0) ≡ false
  none_of_one w tied = ap is_lt (beside_pair value w doc 0 Equal tied) ∙ lt_cmp doc 0 ∙ le-ltb doc 0 (omega arith)

  pub lists_behind : (ps : List (ℕ × ℕ)) → IsStrictlySortedBy value_cmp (map read ps) → AllByRecursion (IsListPair type m) ps
      → ((p : ℕ × ℕ) → lookup_pair against ps ≡ Some p → IsPlain p.1) → ((p : ℕ × ℕ) → lookup_pair against ps ≡ Some p → p.1 % 2 ≡ 0)
      → keys_behind key (keys_of_pairs type m ps) ≡ keys_of_pairs type m (behind against ps)
  unfolding IsStrictlySortedBy
  lists_behind [] up are plain even = refl
  lists_behind (p ∷ ps) up are plain even =
      (elim (against p.0) as (λ o. against p.0 ≡ o → ((q : ℕ × ℕ) → choose o (lookup_pair against ps) (Some p) None ≡ Some q → IsPlain q.1)
      → ((q : ℕ × ℕ) → choose o (lookup_pair against ps) (Some p) None ≡ Some q → q.1 % 2 ≡ 0)
      → keys_behind key (keys_of_pairs type m (p ∷ ps)) ≡ keys_of_pairs type m (choose o (behind against ps) (behind against ps) (p ∷ ps))) [
        | Less ↦ λ is t h. skipped (keys_at p) (keys_of_pairs type m ps) (not_past (read p) (seen p.0 ∙ is) (form_docs m (list_form p.1))) ∙ lists_behind ps up.1 are.1 t h
        | Equal ↦ λ is t h. (
            let tied = seen p.0 ∙ is in
            ap (λ (docs : List ℕ). keys_behind key (map (λ d. Pair (read p) d) docs ++ keys_of_pairs type m ps)) (short_docs m p.1 (t p refl) (h p refl))
            ∙ ap (λ (t : Bool). cond t (Pair (read p) 0 ∷ keys_of_pairs type m ps) (keys_behind key (keys_of_pairs type m ps))) (none_of_one (read p) tied)
            ∙ all_behind ps (trans_all (read p) (map read ps) (λ x less. sym (value_cmp_total.congr (read p) value x tied) ∙ less) up.0)
            )
        | Greater ↦ λ is t h. (
            let less = less_back (read p) (seen p.0 ∙ is) in
            whole_behind key (keys_of_pairs type m (p ∷ ps))
            (above_pairs (p ∷ ps) (less, trans_all (read p) (map read ps) (λ x above. value_cmp_total.trans value (read p) x less above) up.0))
            )
      ]) refl plain even

-- lists that are each one record have one key each
one_doc : (bits buffer : ℕ) (m : Records) (form : ListForm) → IsRecordApart bits buffer form → form_docs m form ≡ 0 ∷ []
one_doc bits buffer m (short ref) apart = refl
one_doc bits buffer m (tree root) apart = absurd apart
one_doc bits buffer m (vector root) apart = absurd apart

pub short_keys : (bits buffer : ℕ) (type : ValueType) (m : Records) (n : ℕ) (ps : List (ℕ × ℕ)) → AllByRecursion (λ p. IsRecordApart bits buffer (list_form p.1)) (take n ps)
    → keys_of_pairs type m ps ≡ map (λ p. Pair (stored_value type m p.0) 0) (take n ps) ++ keys_of_pairs type m (drop n ps)
short_keys bits buffer type m zero ps all = refl
short_keys bits buffer type m (suc n) [] all = refl
short_keys bits buffer type m (suc n) (p ∷ ps) all =
    ap (λ (docs : List ℕ). map (λ d. Pair (stored_value type m p.0) d) docs ++ keys_of_pairs type m ps) (one_doc bits buffer m (list_form p.1) all.0)
    ∙ ap (λ (ks : List PlanKey). Pair (stored_value type m p.0) 0 ∷ ks) (short_keys bits buffer type m n ps all.1)
