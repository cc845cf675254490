-- The next key of a phase.
use Rattle.std.proofs.Common.{◌≡◌, ◌≢◌, ℕ, ◌+◌, ◌<◌, ◌^◌, Bool, true, false, cond, not, nat_lt, List, [], ◌∷◌, map, None, Some, Option, option_map, Less, Equal, Greater, is_lt, nat_cmp, refl, sym, ap, ◌∙◌, arith}
use Rattle.std.proofs.lemmas.Bool.{ltb-true, ltb-false, le-ltb, lt-ltb}
use Rattle.std.specs.declared.cmp.Ordering.{Ordering}
use Rattle.std.specs.List.{find, AllByRecursion}
use Rattle.std.specs.Cmp.{ranks}
use Rattle.std.specs.Ordering.{is_gt, ordering_reverse, ordering_then, MatchOrdering}
use Rattle.entry_ref.specs.Records.{Records}
use Rattle.tree_read.specs.Pairs.{choose, seek}
use Rattle.tree_read.specs.Trees.{tree_pairs}
use Rattle.tree_read.specs.SearchPlaces.{first_key, first_value}
use Rattle.image_format.specs.Values.{stored_value}
use Rattle.attr_types.specs.ProofsForOrder.{value_cmp_total}
use Rattle.attr_types.specs.Value.{type_of, value_cmp}
use Rattle.doc_vector.specs.Documents.{IsDocumentPair}
use Rattle.attr_types.specs.declared.kind.ValueType.{ValueType}
use Rattle.attr_types.specs.declared.value.Value.{Value as AnyValue}
use Rattle.attr_compaction.specs.Places.{key_cmp}
use Rattle.attr_compaction.specs.declared.plan.PlanKey.{PlanKey}
use Rattle.attr_compaction.specs.declared.plan.PlanKey.TheVariants.{Start, Value, Doc, Pair}
use Rattle.enum_dictionary.specs.Dictionaries.{behind, beside_value}
use Rattle.attr_compaction.specs.PhaseKeys.{document_keys, first_item, key_past, value_keys}

-- ---- the pair that follows
pub pair_first : (ps : List (ℕ × ℕ)) → ps ≢ [] → first_item ps ≡ Some (first_key ps, first_value ps)
pair_first [] some = absurd (some refl)
pair_first (p ∷ ps) some = refl

pub pair_none : (ps : List (ℕ × ℕ)) → ps ≡ [] → first_item ps ≡ None
pair_none [] none = refl
pair_none (p ∷ ps) none = absurd (grind (arith, none))

-- ---- keys made of pairs, and a test of them
module _ (f : ℕ × ℕ → PlanKey) (test : PlanKey → Bool) where
  pub find_first : ((p : ℕ × ℕ) → test (f p) ≡ true) → (ps : List (ℕ × ℕ)) → option_map f (first_item ps) ≡ find test (map f ps)
  find_first all [] = refl
  find_first all (p ∷ ps) = sym (ap (λ (b : Bool). cond b (Some (f p)) (find test (map f ps))) (all p))

  pub find_none : ((p : ℕ × ℕ) → test (f p) ≡ false) → (ps : List (ℕ × ℕ)) → None ≡ find test (map f ps)
  find_none none [] = refl
  find_none none (p ∷ ps) = find_none none ps ∙ sym (ap (λ (b : Bool). cond b (Some (f p)) (find test (map f ps))) (none p))

  pub find_behind : (c : ℕ → Ordering) → ((p : ℕ × ℕ) → test (f p) ≡ is_gt (c p.0)) → (ps : List (ℕ × ℕ)) → option_map f (first_item (behind c ps)) ≡ find test (map f ps)
  find_behind c same [] = refl
  find_behind c same (p ∷ ps) =
      (elim (c p.0) as (λ o. c p.0 ≡ o → option_map f (first_item (choose o (behind c ps) (behind c ps) (p ∷ ps))) ≡ find test (map f (p ∷ ps))) [
        | Less ↦ λ e. find_behind c same ps ∙ sym (ap (λ (b : Bool). cond b (Some (f p)) (find test (map f ps))) (same p ∙ ap is_gt e))
        | Equal ↦ λ e. find_behind c same ps ∙ sym (ap (λ (b : Bool). cond b (Some (f p)) (find test (map f ps))) (same p ∙ ap is_gt e))
        | Greater ↦ λ e. sym (ap (λ (b : Bool). cond b (Some (f p)) (find test (map f ps))) (same p ∙ ap is_gt e))
      ]) refl

  pub find_seek : (c : ℕ → Ordering) → ((p : ℕ × ℕ) → test (f p) ≡ not (is_lt (c p.0))) → (ps : List (ℕ × ℕ)) → option_map f (first_item (seek c ps)) ≡ find test (map f ps)
  find_seek c same [] = refl
  find_seek c same (p ∷ ps) =
      (elim (c p.0) as (λ o. c p.0 ≡ o → option_map f (first_item (choose o (seek c ps) (p ∷ ps) (p ∷ ps))) ≡ find test (map f (p ∷ ps))) [
        | Less ↦ λ e. find_seek c same ps ∙ sym (ap (λ (b : Bool). cond b (Some (f p)) (find test (map f ps))) (same p ∙ ap (λ o. not (is_lt o)) e))
        | Equal ↦ λ e. sym (ap (λ (b : Bool). cond b (Some (f p)) (find test (map f ps))) (same p ∙ ap (λ o. not (is_lt o)) e))
        | Greater ↦ λ e. sym (ap (λ (b : Bool). cond b (Some (f p)) (find test (map f ps))) (same p ∙ ap (λ o. not (is_lt o)) e))
      ]) refl

-- ---- keys beside each other
past_value : (v w : AnyValue) → is_lt (key_cmp (Value v) (Value w)) ≡ is_gt (value_cmp w v)
past_value v w = by (value_cmp v w) refl ∙ ap is_lt (value_cmp_total.antisymm v w) ∙ turned (value_cmp w v)
  where
    by : (o : Ordering) → value_cmp v w ≡ o → is_lt (key_cmp (Value v) (Value w)) ≡ is_lt (value_cmp v w)
    by Less e = ap is_lt (ap (λ (x : Ordering). ordering_then x (nat_cmp 0 0)) e) ∙ sym (ap is_lt e)
    by Equal e = ap is_lt (ap (λ (x : Ordering). ordering_then x (nat_cmp 0 0)) e) ∙ sym (ap is_lt e)
    by Greater e = ap is_lt (ap (λ (x : Ordering). ordering_then x (nat_cmp 0 0)) e) ∙ sym (ap is_lt e)

    turned : (o : Ordering) → is_lt (ordering_reverse o) ≡ is_gt o
    turned Less = refl
    turned Equal = refl
    turned Greater = refl

pub lt_cmp : (a b : ℕ) → is_lt (nat_cmp a b) ≡ nat_lt a b
lt_cmp a b = told (nat_cmp a b) (ranks a b)
  where
    told : (o : Ordering) → MatchOrdering o (a < b) (a ≡ b) (b < a) → is_lt o ≡ nat_lt a b
    told Less h = sym (lt-ltb a b h)
    told Equal h = sym (le-ltb a b (omega arith))
    told Greater h = sym (le-ltb a b (omega arith))

pub past_number : (d e : ℕ) → is_lt (key_cmp (Doc d) (Doc e)) ≡ not (is_lt (nat_cmp e (d + 1)))
past_number d e = told (nat_lt d e) refl
  where
    told : (t : Bool) → nat_lt d e ≡ t → is_lt (nat_cmp d e) ≡ not (is_lt (nat_cmp e (d + 1)))
    told true is = (lt_cmp d e ∙ is) ∙ sym (ap not (lt_cmp e (d + 1) ∙ le-ltb e (d + 1) (omega (arith, ltb-true d e is))))
    told false is = (lt_cmp d e ∙ is) ∙ sym (ap not (lt_cmp e (d + 1) ∙ lt-ltb e (d + 1) (omega (arith, ltb-false d e is))))

-- ---- the next value
module _ (type : ValueType) (m : Records) (root : ℕ) where
  abbrev as_value : ℕ × ℕ → PlanKey
  as_value p = Value (stored_value type m p.0)

  pub first_value_is : option_map as_value (first_item (tree_pairs m root)) ≡ key_past Start (value_keys type m root)
  first_value_is = find_first as_value (λ next. is_lt (key_cmp Start next)) (λ p. refl) (tree_pairs m root)

  pub value_past_is : (value : AnyValue) → type_of value ≡ type
      → option_map as_value (first_item (behind (beside_value value m) (tree_pairs m root))) ≡ key_past (Value value) (value_keys type m root)
  value_past_is value is = find_behind as_value (λ next. is_lt (key_cmp (Value value) next)) (beside_value value m)
      (λ p. past_value value (stored_value type m p.0) ∙ ap (λ (t : ValueType). is_gt (value_cmp (stored_value t m p.0) value)) (sym is)) (tree_pairs m root)

  pub no_value_past_doc : (doc : ℕ) → None ≡ key_past (Doc doc) (value_keys type m root)
  no_value_past_doc doc = find_none as_value (λ next. is_lt (key_cmp (Doc doc) next)) (λ p. refl) (tree_pairs m root)

  pub no_value_past_pair : (value : AnyValue) (doc : ℕ) → None ≡ key_past (Pair value doc) (value_keys type m root)
  no_value_past_pair value doc = find_none as_value (λ next. is_lt (key_cmp (Pair value doc) next)) (λ p. refl) (tree_pairs m root)

-- ---- the next document
module _ (m : Records) (root : ℕ) where
  abbrev as_doc : ℕ × ℕ → PlanKey
  as_doc p = Doc p.0

  pub first_doc_is : option_map as_doc (first_item (tree_pairs m root)) ≡ key_past Start (document_keys m root)
  first_doc_is = find_first as_doc (λ next. is_lt (key_cmp Start next)) (λ p. refl) (tree_pairs m root)

  pub doc_past_value : (value : AnyValue) → option_map as_doc (first_item (tree_pairs m root)) ≡ key_past (Value value) (document_keys m root)
  doc_past_value value = find_first as_doc (λ next. is_lt (key_cmp (Value value) next)) (λ p. refl) (tree_pairs m root)

  pub doc_past_is : (doc : ℕ) → option_map as_doc (first_item (seek (λ key. nat_cmp key (doc + 1)) (tree_pairs m root))) ≡ key_past (Doc doc) (document_keys m root)
  doc_past_is doc = find_seek as_doc (λ next. is_lt (key_cmp (Doc doc) next)) (λ key. nat_cmp key (doc + 1)) (λ p. past_number doc p.0) (tree_pairs m root)

  pub no_doc_past_pair : (value : AnyValue) (doc : ℕ) → None ≡ key_past (Pair value doc) (document_keys m root)
  no_doc_past_pair value doc = find_none as_doc (λ next. is_lt (key_cmp (Pair value doc) next)) (λ p. refl) (tree_pairs m root)

-- what holds of all pairs holds of those behind a key
pub all_behind : (P : ℕ × ℕ → Type 0) (c : ℕ → Ordering) (ps : List (ℕ × ℕ)) → AllByRecursion P ps → AllByRecursion P (behind c ps)
all_behind P c [] all = tt
all_behind P c (p ∷ ps) all =
    elim (c p.0) as (λ o. AllByRecursion P (choose o (behind c ps) (behind c ps) (p ∷ ps))) [
      | Less ↦ all_behind P c ps all.1
      | Equal ↦ all_behind P c ps all.1
      | Greater ↦ all
    ]

pub unit_all : (ps : List (ℕ × ℕ)) → AllByRecursion (λ p. Unit {0}) ps
unit_all [] = tt
unit_all (p ∷ ps) = (tt, unit_all ps)

-- ---- documents by their numbers
module _ (m : Records) (root : ℕ) where
  keyed_twice : (o : Option (ℕ × ℕ)) → option_map (λ (doc : ℕ). Doc doc) (option_map (λ (p : ℕ × ℕ). p.0) o) ≡ option_map (λ (p : ℕ × ℕ). Doc p.0) o
  keyed_twice None = refl
  keyed_twice (Some p) = refl

  pub first_number_is : (number : Option ℕ) → number ≡ option_map (λ (p : ℕ × ℕ). p.0) (first_item (tree_pairs m root))
      → option_map (λ (doc : ℕ). Doc doc) number ≡ key_past Start (document_keys m root)
  first_number_is number is = ap (option_map (λ (doc : ℕ). Doc doc)) is ∙ keyed_twice (first_item (tree_pairs m root)) ∙ first_doc_is m root

  pub number_past_value : (value : AnyValue) (number : Option ℕ) → number ≡ option_map (λ (p : ℕ × ℕ). p.0) (first_item (tree_pairs m root))
      → option_map (λ (doc : ℕ). Doc doc) number ≡ key_past (Value value) (document_keys m root)
  number_past_value value number is = ap (option_map (λ (doc : ℕ). Doc doc)) is ∙ keyed_twice (first_item (tree_pairs m root)) ∙ doc_past_value m root value

  pub number_past_is : (doc : ℕ) (number : Option ℕ) → number ≡ option_map (λ (p : ℕ × ℕ). p.0) (first_item (seek (λ key. nat_cmp key (doc + 1)) (tree_pairs m root)))
      → option_map (λ (d : ℕ). Doc d) number ≡ key_past (Doc doc) (document_keys m root)
  number_past_is doc number is =
      ap (option_map (λ (d : ℕ). Doc d)) is ∙ keyed_twice (first_item (seek (λ key. nat_cmp key (doc + 1)) (tree_pairs m root))) ∙ doc_past_is m root doc

pub documents_number : (ps : List (ℕ × ℕ)) → AllByRecursion IsDocumentPair ps → AllByRecursion (λ p. p.0 < 2 ^ 32) ps
documents_number [] all = tt
documents_number (p ∷ ps) all = ((let few = all.0.document.1 in omega (arith, few)), documents_number ps all.1)
