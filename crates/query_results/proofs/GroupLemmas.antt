-- Groups of values, by the runs of equal neighbours in a sorted list.
use Rattle.std.proofs.Common.{◌≡◌, ℕ, ◌<◌, ◌+◌, Bool, true, false, ◌||◌, List, [], ◌∷◌, ◌++◌, map, filter, length, get_or, cond, refl, sym, ap, ap₂, subst, ◌∙◌, arith, Less, true≢false, Ordering, Equal, Greater}
use Rattle.std.proofs.lemmas.List.Folds.{list_any-append}
use Rattle.std.proofs.lemmas.List.Kept.{IsStrictlySortedBy-dedup}
use Rattle.std.proofs.lemmas.List.Sorted.{length_permutation, sum_by-IsPermutation}
use Rattle.std.proofs.lemmas.List.{append_assoc}
use Rattle.std.proofs.lemmas.List.Sums.{sum_by-cons}
use Rattle.std.proofs.lemmas.Map.Keys.{sorted_head, sorted_tail}
use Rattle.std.proofs.lemmas.Map.Views.{tells_apart}
use Rattle.std.specs.Cmp.{tied_itself}
use Rattle.std.specs.List.{dedup_from, flat_map, list_any, remove, sum_by, AllByRecursion}
use Rattle.std.specs.List.Sorted.{IsPermutation, IsSorted, IsStrictlySortedBy}
use Rattle.std.specs.Ordering.{eq_by_cmp, is_eq, ordering_reverse}
use Rattle.attr_types.specs.ProofsForOrder.{value_cmp_exact, value_cmp_total}
use Rattle.attr_types.specs.Scores.{has_value}
use Rattle.attr_types.specs.Table.{Table}
use Rattle.attr_types.specs.Value.{value_cmp, values_of}
use Rattle.attr_types.specs.declared.items.Item.{Item}
use Rattle.attr_types.specs.declared.value.Value.{Value}
use Rattle.result_model.specs.Groups.{all_groups, count_with, has}
use Rattle.result_model.specs.Orders.{in_order}
use Rattle.result_model.specs.Values.{items_of}
use Rattle.result_model.specs.declared.group.Group.{Group}
use Rattle.query_results.specs.Runs.{copies, groups_of, runs, with_run}
use Rattle.query_results.proofs.OrderLemmas.{has_deduped, has_in_order, is_in_order, sort_is, sorted_in_order}

abbrev same : Value → Value → Bool
same = eq_by_cmp value_cmp

abbrev one : Bool → ℕ
one b = cond b 1 0

nothing_more : (n : ℕ) → 0 + n ≡ n
nothing_more n = omega arith

itself : (v : Value) → same v v ≡ true
itself v = ap is_eq (tied_itself value_cmp_total v)

equal_turned : (r : Ordering) → is_eq (ordering_reverse r) ≡ is_eq r
equal_turned Less = refl
equal_turned Equal = refl
equal_turned Greater = refl

turned : (v w : Value) → same v w ≡ same w v
turned v w = ap is_eq (value_cmp_total.antisymm v w) ∙ equal_turned (value_cmp w v)

either_false : (a b : Bool) → (a || b) ≡ false → (a ≡ false) × (b ≡ false)
either_false true b is = absurd (true≢false is)
either_false false b is = (refl, is)

-- ---- how often a value is there

copies_none : (v : Value) (xs : List Value) → list_any (same v) xs ≡ false → copies v xs ≡ 0
copies_none v [] none = refl
copies_none v (x ∷ xs) none =
    let both = either_false (same v x) (list_any (same v) xs) none in
    ap (λ b. one b + copies v xs) both.0 ∙ nothing_more (copies v xs) ∙ copies_none v xs both.1

copies_append : (v : Value) (xs ys : List Value) → copies v (xs ++ ys) ≡ copies v xs + copies v ys
copies_append v [] ys = sym (nothing_more (copies v ys))
copies_append v (x ∷ xs) ys = omega (arith, copies_append v xs ys)

copies_sum : (v : Value) (xs : List Value) → copies v xs ≡ sum_by (λ x. one (same v x)) xs
copies_sum v [] = refl
copies_sum v (x ∷ xs) = ap (λ n. one (same v x) + n) (copies_sum v xs) ∙ sym (sum_by-cons (λ x. one (same v x)) x xs)

copies_moved : (v : Value) (xs ys : List Value) → IsPermutation xs ys → copies v ys ≡ copies v xs
copies_moved v xs ys moved = copies_sum v ys ∙ sum_by-IsPermutation (λ x. one (same v x)) xs ys moved ∙ sym (copies_sum v xs)

none_above : (k : Value) (ks : List Value) → AllByRecursion (λ w. value_cmp k w ≡ Less) ks → list_any (same k) ks ≡ false
none_above k [] above = refl
none_above k (w ∷ ks) above = ap₂ (λ (a b : Bool). a || b) (ap is_eq above.0) (none_above k ks above.1)

-- in a list of distinct values in order a value is once, or not at all
copies_sorted : (v : Value) (ks : List Value) → IsStrictlySortedBy value_cmp ks → copies v ks ≡ one (list_any (same v) ks)
copies_sorted v [] sorted = refl
copies_sorted v (k ∷ ks) sorted =
    elim (same v k) as (λ b. same v k ≡ b → one b + copies v ks ≡ one (b || list_any (same v) ks)) [
      | true ↦ λ is. ap (λ n. 1 + n) (copies_none v ks (subst (λ (x : Value). list_any (same x) ks ≡ false) (sym (tells_apart value_cmp_exact v k is)) (none_above k ks (sorted_head value_cmp k ks sorted))))
      | false ↦ λ is. nothing_more (copies v ks) ∙ copies_sorted v ks (sorted_tail value_cmp k ks sorted)
    ] refl

-- ---- runs of equal neighbours

-- the group of a value of which `count` copies of `first` are counted already
abbrev counted : Value → ℕ → List Value → Value → Group
counted first count xs w = record { value = w; count = cond (same w first) count 0 + copies w xs }

same_groups : (f g : Value → Group) (P : Value → Type 0) → ((w : Value) → P w → f w ≡ g w) → (ks : List Value) → AllByRecursion P ks → map f ks ≡ map g ks
same_groups f g P is [] all = refl
same_groups f g P is (k ∷ ks) all = ap₂ (λ (x : Group) (xs : List Group). x ∷ xs) (is k all.0) (same_groups f g P is ks all.1)

all_tt : (ks : List Value) → AllByRecursion (λ w. Unit {0}) ks
all_tt [] = tt
all_tt (k ∷ ks) = (tt, all_tt ks)

one_counted : (b : Bool) (count more : ℕ) → cond b (count + 1) 0 + more ≡ cond b count 0 + (one b + more)
one_counted true count more = omega arith
one_counted false count more = ap (λ n. 0 + n) (sym (nothing_more more))

run_counts : (v : Value) (count : ℕ) (xs : List Value) → IsStrictlySortedBy value_cmp (dedup_from same v xs)
    → with_run v count xs ≡ map (counted v count xs) (dedup_from same v xs)
run_counts v count [] sorted =
    ap (λ (n : ℕ). record { value = v; count = n } ∷ []) (count_is ∙ ap (λ b. cond b count 0 + 0) (sym (itself v)))
  where
    count_is : count ≡ count + 0
    count_is = omega arith
run_counts v count (y ∷ ys) sorted =
    elim (same y v) as (λ b. same y v ≡ b → IsStrictlySortedBy value_cmp (cond b (dedup_from same v ys) (v ∷ dedup_from same y ys))
    → cond b (with_run v (count + 1) ys) (record { value = v; count = count } ∷ with_run y 1 ys)
    ≡ map (counted v count (y ∷ ys)) (cond b (dedup_from same v ys) (v ∷ dedup_from same y ys))) [
      | true ↦ λ is sorted. run_counts v (count + 1) ys sorted ∙ same_groups _ _ (λ w. Unit {0}) (more is) (dedup_from same v ys) (all_tt (dedup_from same v ys))
      | false ↦ λ is sorted.
          let above = sorted_head value_cmp v (dedup_from same y ys) sorted in
          ap₂ (λ (x : Group) (xs : List Group). x ∷ xs) (alone is above)
          (run_counts y 1 ys (sorted_tail value_cmp v (dedup_from same y ys) sorted) ∙ same_groups _ _ (λ w. value_cmp v w ≡ Less) others (dedup_from same y ys) above)
    ] refl sorted
  where
    more : same y v ≡ true → (w : Value) → Unit {0} → counted v (count + 1) ys w ≡ counted v count (y ∷ ys) w
    more is w t =
        let y_is = tells_apart value_cmp_exact y v is in
        ap (λ (n : ℕ). record { value = w; count = n })
        (one_counted (same w v) count (copies w ys) ∙ ap (λ (x : Value). cond (same w v) count 0 + (one (same w x) + copies w ys)) (sym y_is))

    others : (w : Value) → value_cmp v w ≡ Less → counted y 1 ys w ≡ counted v count (y ∷ ys) w
    others w above =
        ap (λ (n : ℕ). record { value = w; count = n })
        (sym (nothing_more (one (same w y) + copies w ys)) ∙ ap (λ b. cond b count 0 + (one (same w y) + copies w ys)) (sym (turned w v ∙ ap is_eq above)))

    alone : same y v ≡ false → AllByRecursion (λ w. value_cmp v w ≡ Less) (dedup_from same y ys)
        → record { value = v; count = count } ≡ counted v count (y ∷ ys) v
    alone is above =
        let none = sym (has_deduped value_cmp_total value_cmp_exact {E = same} (λ a b. refl) v (y ∷ ys)) ∙ none_above v (dedup_from same y ys) above in
        ap (λ (n : ℕ). record { value = v; count = n })
        (count_is ∙ ap₂ (λ (b : Bool) (n : ℕ). cond b count 0 + n) (sym (itself v)) (sym (copies_none v (y ∷ ys) none)))
      where
        count_is : count ≡ count + 0
        count_is = omega arith

-- one more value
pub stays : (groups : List Group) (value next : Value) (count : ℕ) (rest : List Value) → same next value ≡ true
    → groups ++ with_run value (count + 1) rest ≡ groups ++ with_run value count (next ∷ rest)
stays groups value next count rest is =
    ap (λ b. groups ++ cond b (with_run value (count + 1) rest) (record { value = value; count = count } ∷ with_run next 1 rest)) (sym is)

pub starts : (groups new : List Group) (last : Group) (next : Value) (rest : List Value) → same next last.value ≡ false → new ≡ groups ++ last ∷ []
    → new ++ with_run next 1 rest ≡ groups ++ with_run last.value last.count (next ∷ rest)
starts groups new last next rest is pushed =
    ap (λ (gs : List Group). gs ++ with_run next 1 rest) pushed
    ∙ append_assoc groups (last ∷ []) (with_run next 1 rest)
    ∙ ap (λ b. groups ++ cond b (with_run last.value (last.count + 1) rest) (last ∷ with_run next 1 rest)) (sym is)

-- the first of some values, and the others
pub first_is : (xs rest : List Value) (first : Value) → 0 < length xs → first ≡ get_or xs 0 first → rest ≡ remove xs 0 → with_run first 1 rest ≡ runs xs
first_is [] rest first some here others = absurd (omega (arith, some))
first_is (x ∷ xs) rest first some here others = ap₂ (λ (y : Value) (ys : List Value). with_run y 1 ys) here others

-- the runs of sorted values are their groups
pub runs_are : (values sorted : List Value) → IsPermutation values sorted → IsSorted value_cmp sorted → runs sorted ≡ groups_of values
runs_are [] [] moved ascend = refl
runs_are (v ∷ values) [] moved ascend = absurd (omega (arith, length_permutation (v ∷ values) [] moved))
runs_are values (first ∷ rest) moved ascend =
    run_counts first 1 rest (IsStrictlySortedBy-dedup value_cmp_total {E = same} (λ a b. refl) (first ∷ rest) ascend)
    ∙ same_groups _ _ (λ w. Unit {0})
    (λ w t. ap (λ (n : ℕ). record { value = w; count = n }) (copies_moved w values (first ∷ rest) moved))
    (dedup_from same first rest) (all_tt (dedup_from same first rest))
    ∙ ap (map (λ (value : Value). record { value = value; count = copies value values }))
    (sort_is value_cmp_total value_cmp_exact {E = same} (λ a b. refl) values (first ∷ rest) moved ascend)

-- ---- the values of documents

pub any_item : (v : Value) (items : List Item) → list_any (same v) (values_of items) ≡ list_any (has_value v) items
any_item v [] = refl
any_item v (item ∷ items) = ap (λ b. has_value v item || b) (any_item v items)

module _ (field : ℕ) (table : Table) where
  abbrev values_at : ℕ → List Value
  values_at doc = values_of (items_of field table doc)

  abbrev distinct_at : ℕ → List Value
  distinct_at doc = in_order value_cmp (values_at doc)

  length_one : (b : Bool) (doc : ℕ) (docs : List ℕ) → one b + length docs ≡ length (cond b (doc ∷ docs) docs)
  length_one true doc docs = omega arith
  length_one false doc docs = nothing_more (length docs)

  -- each document has a value once
  copies_are : (v : Value) (docs : List ℕ) → copies v (flat_map distinct_at docs) ≡ count_with field docs table v
  copies_are v [] = refl
  copies_are v (doc ∷ docs) =
      copies_append v (distinct_at doc) (flat_map distinct_at docs)
      ∙ ap₂ (λ (a b : ℕ). a + b)
      (copies_sorted v (distinct_at doc) (sorted_in_order value_cmp_total (values_at doc))
      ∙ ap one (has_in_order value_cmp_total v (values_at doc) ∙ any_item v (items_of field table doc)))
      (copies_are v docs)
      ∙ length_one (has field table v doc) doc (filter (has field table v) docs)

  any_distinct : (v : Value) (docs : List ℕ) → list_any (same v) (flat_map distinct_at docs) ≡ list_any (same v) (flat_map values_at docs)
  any_distinct v [] = refl
  any_distinct v (doc ∷ docs) =
      list_any-append (same v) (distinct_at doc) (flat_map distinct_at docs)
      ∙ ap₂ (λ (a b : Bool). a || b) (has_in_order value_cmp_total v (values_at doc)) (any_distinct v docs)
      ∙ sym (list_any-append (same v) (values_at doc) (flat_map values_at docs))

  pub groups_are : (docs : List ℕ) → groups_of (flat_map distinct_at docs) ≡ all_groups field docs table
  groups_are docs =
      same_groups _ _ (λ w. Unit {0})
      (λ w t. ap (λ (n : ℕ). record { value = w; count = n }) (copies_are w docs))
      (in_order value_cmp (flat_map distinct_at docs)) (all_tt (in_order value_cmp (flat_map distinct_at docs)))
      ∙ ap (map (λ (value : Value). record { value = value; count = count_with field docs table value }))
      (is_in_order value_cmp_total value_cmp_exact (in_order value_cmp (flat_map distinct_at docs)) (flat_map values_at docs)
      (sorted_in_order value_cmp_total (flat_map distinct_at docs))
      (λ q. has_in_order value_cmp_total q (flat_map distinct_at docs) ∙ any_distinct q docs))
