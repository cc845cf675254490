-- The pairs behind a key, seen from the pairs that are not below it.
use Rattle.std.proofs.Common.{◌≡◌, ◌≢◌, ℕ, List, [], ◌∷◌, drop, map, true, false, refl, sym, ap, subst, ◌∙◌, arith, true≢false}
use Rattle.std.specs.Cmp.{IsTotalOrder}
use Rattle.std.specs.declared.cmp.Ordering.{Ordering}
use Rattle.std.specs.declared.cmp.Ordering.TheVariants.{Less, Equal, Greater}
use Rattle.std.specs.List.{AllByRecursion}
use Rattle.std.specs.List.Sorted.{IsStrictlySortedBy}
use Rattle.std.specs.Ordering.{ordering_reverse, is_eq}
use Rattle.entry_ref.specs.Records.{Records}
use Rattle.tree_read.specs.Pairs.{choose, seek}
use Rattle.tree_read.specs.SearchPlaces.{first_key}
use Rattle.tree_read.specs.Trees.{tree_pairs}
use Rattle.image_format.specs.Values.{stored_value, IsValueRecord}
use Rattle.attr_types.specs.ProofsForOrder.{value_cmp_total}
use Rattle.attr_types.specs.Value.{value_cmp}
use Rattle.attr_types.specs.declared.kind.ValueType.{ValueType}
use Rattle.attr_types.specs.declared.value.Value.{Value}
use Rattle.enum_dictionary.specs.Dictionaries.{behind, IsDictionary}

-- what holds of all keys holds of those sought, and of the first of some
pub All-seek : (P : ℕ × ℕ → Type 0) (c : ℕ → Ordering) (ps : List (ℕ × ℕ)) → AllByRecursion P ps → AllByRecursion P (seek c ps)
All-seek P c [] all = tt
All-seek P c (p ∷ ps) all =
    elim (c p.0) as (λ o. AllByRecursion P (choose o (seek c ps) (p ∷ ps) (p ∷ ps))) [
      | Less ↦ All-seek P c ps all.1
      | Equal ↦ all
      | Greater ↦ all
    ]

pub first_of_all : (P : ℕ → Type 0) (ps : List (ℕ × ℕ)) → ps ≢ [] → AllByRecursion (λ p. P p.0) ps → P (first_key ps)
first_of_all P [] some all = absurd (some refl)
first_of_all P (p ∷ ps) some all = all.0

-- none is not below: none is behind
pub behind_none : (c : ℕ → Ordering) (ps : List (ℕ × ℕ)) → seek c ps ≡ [] → behind c ps ≡ []
behind_none c [] none = refl
behind_none c (p ∷ ps) none =
    elim (c p.0) as (λ o. choose o (seek c ps) (p ∷ ps) (p ∷ ps) ≡ [] → choose o (behind c ps) (behind c ps) (p ∷ ps) ≡ []) [
      | Less ↦ λ h. behind_none c ps h
      | Equal ↦ λ h. absurd (grind (arith, h))
      | Greater ↦ λ h. h
    ] none

-- the first that is not below is not equal: it is the first behind
pub behind_apart : (c : ℕ → Ordering) (ps : List (ℕ × ℕ)) → c (first_key (seek c ps)) ≢ Equal → behind c ps ≡ seek c ps
behind_apart c [] apart = refl
behind_apart c (p ∷ ps) apart =
    (elim (c p.0) as (λ o. c p.0 ≡ o → c (first_key (choose o (seek c ps) (p ∷ ps) (p ∷ ps))) ≢ Equal
    → choose o (behind c ps) (behind c ps) (p ∷ ps) ≡ choose o (seek c ps) (p ∷ ps) (p ∷ ps)) [
      | Less ↦ λ e h. behind_apart c ps h
      | Equal ↦ λ e h. absurd (h e)
      | Greater ↦ λ e h. refl
    ]) refl apart

module _ {V : Type 0} (order : V → V → Ordering) (total : IsTotalOrder order) (reads : ℕ → V) (s : V) where
  -- behind an equal key all are above
  all_behind : (a : V) (ps : List (ℕ × ℕ)) → order a s ≡ Equal → AllByRecursion (λ v. order a v ≡ Less) (map (λ p. reads p.0) ps)
      → behind (λ k. order (reads k) s) ps ≡ ps
  all_behind a [] e all = refl
  all_behind a (p ∷ ps) e all =
      let above : order (reads p.0) s ≡ Greater = total.antisymm (reads p.0) s ∙ ap ordering_reverse (sym (total.congr a s (reads p.0) e) ∙ all.0) in
      ap (λ o. choose o (behind (λ k. order (reads k) s) ps) (behind (λ k. order (reads k) s) ps) (p ∷ ps)) above

  -- it is equal: those after it are behind
  pub behind_equal : (ps : List (ℕ × ℕ)) → IsStrictlySortedBy order (map (λ p. reads p.0) ps)
      → order (reads (first_key (seek (λ k. order (reads k) s) ps))) s ≡ Equal
      → behind (λ k. order (reads k) s) ps ≡ drop 1 (seek (λ k. order (reads k) s) ps)
  unfolding IsStrictlySortedBy
  behind_equal [] up equal = refl
  behind_equal (p ∷ ps) up equal =
      let c : ℕ → Ordering = λ k. order (reads k) s in
      (elim (c p.0) as (λ o. c p.0 ≡ o → c (first_key (choose o (seek c ps) (p ∷ ps) (p ∷ ps))) ≡ Equal
      → choose o (behind c ps) (behind c ps) (p ∷ ps) ≡ drop 1 (choose o (seek c ps) (p ∷ ps) (p ∷ ps))) [
        | Less ↦ λ e h. behind_equal ps up.1 h
        | Equal ↦ λ e h. all_behind (reads p.0) ps e up.0
        | Greater ↦ λ e h. absurd (apart (c p.0) e h)
      ]) refl equal
    where
      apart : (o : Ordering) → o ≡ Greater → o ≡ Equal → ⊥
      apart o g e = grind (arith, g, e)

-- a test for equal keys
pub equal_from : (o : Ordering) → is_eq o ≡ true → o ≡ Equal
equal_from Less h = absurd (true≢false (sym h))
equal_from Equal h = refl
equal_from Greater h = absurd (true≢false (sym h))

pub apart_from : (o : Ordering) → is_eq o ≡ false → o ≢ Equal
apart_from o h e = true≢false (sym (ap is_eq e) ∙ h)

-- a cursor at the first value that is not below: its key is the record of a value
module _ (type : ValueType) (m : Records) (root : ℕ) (is : IsDictionary type m root) (value : Value) (from : List (ℕ × ℕ)) (key : ℕ) where
  abbrev pub by_value : ℕ → Ordering
  by_value k = value_cmp (stored_value type m k) value

  module _ (from_is : from ≡ seek by_value (tree_pairs m root)) (key_is : key ≡ first_key from) where
    pub stands_at_value : from ≢ [] → IsValueRecord type (m key)
    stands_at_value some =
        subst (λ (k : ℕ). IsValueRecord type (m k)) (sym key_is)
        (first_of_all (λ k. IsValueRecord type (m k)) from some
        (subst (AllByRecursion (λ p. IsValueRecord type (m p.0))) (sym from_is) (All-seek (λ p. IsValueRecord type (m p.0)) by_value (tree_pairs m root) is.keys)))

    seen : by_value key ≡ by_value (first_key (seek by_value (tree_pairs m root)))
    seen = ap by_value key_is ∙ ap (λ ps. by_value (first_key ps)) from_is

    pub goes_on : by_value key ≡ Equal → drop 1 from ≡ behind by_value (tree_pairs m root)
    goes_on equal =
        ap (λ (ps : List (ℕ × ℕ)). drop 1 ps) from_is
        ∙ sym (behind_equal value_cmp value_cmp_total (stored_value type m) value (tree_pairs m root) is.tree_is.ascends (sym seen ∙ equal))

    pub stays_there : by_value key ≢ Equal → from ≡ behind by_value (tree_pairs m root)
    stays_there apart = from_is ∙ sym (behind_apart by_value (tree_pairs m root) (λ e. apart (seen ∙ e)))
