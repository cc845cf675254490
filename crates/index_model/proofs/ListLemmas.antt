-- The list of a value in an index where one list changes, and the weight of a value in items with one more.
use Rattle.std.proofs.Common.{◌≡◌, ◌<◌, ℕ, ℤ, true, false, cond, List, [], ◌∷◌, ◌++◌, length, Option, Some, None, arith}
use Rattle.std.proofs.Common.{option_map, nat_cmp, is_eq, refl, ap, ◌∙◌}
use Rattle.std.proofs.lemmas.Cmp.{tied_itself, eq_by_cmp_equiv}
use Rattle.std.specs.BTreeMap.{is_at}
use Rattle.std.specs.Cmp.{Equal-is}
use Rattle.std.specs.List.{filter_map, find}
use Rattle.std.specs.List.Sorted.{IsStrictlySortedBy}
use Rattle.std.specs.Map.{keys_of, lookup}
use Rattle.std.specs.Option.{unwrap_or}
use Rattle.attr_types.proofs.EntryLemmas.{all-lookup, all-remove, all_values-insert, sorted-insert, sorted-remove}
use Rattle.attr_types.proofs.EntryLemmas.{lookup-insert_here, lookup-insert_other, lookup-remove}
use Rattle.attr_types.specs.Value.{value_cmp}
use Rattle.attr_types.specs.ProofsForOrder.{value_cmp_total, value_cmp_exact}
use Rattle.attr_types.specs.declared.items.Item.{Item}
use Rattle.attr_types.specs.declared.value.Value.{Value}
use Rattle.index_model.specs.Columns.{Column, documents_with}
use Rattle.index_model.proofs.PartLemmas.{part}
use Rattle.index_model.specs.Index.{Index, IsFormed, list_of, with_list, weight_in}

pub same_value : (a b : Value) → is_eq (value_cmp a b) ≡ true → a ≡ b
same_value a b is = value_cmp_exact a b ((Equal-is (value_cmp a b)).0 is)

pub apart_back : (a b : Value) → is_eq (value_cmp a b) ≡ false → is_eq (value_cmp b a) ≡ false
apart_back a b apart = (eq_by_cmp_equiv value_cmp_total).symm b a ∙ apart

-- ---- a list in place

pub list_of-with_list_here : (value : Value) (docs : List (ℕ × ℤ)) (index : Index) → IsFormed index
    → list_of value (with_list value docs index) ≡ docs
list_of-with_list_here value [] index formed =
    ap (λ (o : Option (List (ℕ × ℤ))). unwrap_or o []) (
    lookup-remove value_cmp_total index value value formed.ascends
    ∙ ap (λ r. cond (is_eq r) None (lookup (is_at (value_cmp value)) index)) (tied_itself value_cmp_total value)
    )
list_of-with_list_here value (first ∷ rest) index formed =
    ap (λ (o : Option (List (ℕ × ℤ))). unwrap_or o []) (lookup-insert_here value_cmp_total index value (first ∷ rest))

pub list_of-with_list_other : (value : Value) (docs : List (ℕ × ℤ)) (index : Index) (other : Value) → IsFormed index
    → is_eq (value_cmp other value) ≡ false → list_of other (with_list value docs index) ≡ list_of other index
list_of-with_list_other value [] index other formed apart =
    ap (λ (o : Option (List (ℕ × ℤ))). unwrap_or o []) (
    lookup-remove value_cmp_total index value other formed.ascends
    ∙ ap (λ b. cond b None (lookup (is_at (value_cmp other)) index)) (apart_back other value apart)
    )
list_of-with_list_other value (first ∷ rest) index other formed apart =
    ap (λ (o : Option (List (ℕ × ℤ))). unwrap_or o []) (lookup-insert_other value_cmp_total index value (first ∷ rest) other apart)

pub list_of-sorted : (value : Value) (index : Index) → IsFormed index → IsStrictlySortedBy nat_cmp (keys_of (list_of value index))
unfolding IsStrictlySortedBy
list_of-sorted value index formed = told (lookup (is_at (value_cmp value)) index) refl
  where
    told : (o : Option (List (ℕ × ℤ))) → lookup (is_at (value_cmp value)) index ≡ o → IsStrictlySortedBy nat_cmp (keys_of (unwrap_or o []))
    told None is = tt
    told (Some docs) is =
        all-lookup (λ (docs : List (ℕ × ℤ)). IsStrictlySortedBy nat_cmp (keys_of docs)) (is_at (value_cmp value)) index formed.lists_ascend docs is

pub formed-with_list : (value : Value) (docs : List (ℕ × ℤ)) (index : Index) → IsFormed index
    → IsStrictlySortedBy nat_cmp (keys_of docs) → IsFormed (with_list value docs index)
formed-with_list value [] index formed up = record {
  ascends = sorted-remove value_cmp (is_at (value_cmp value)) index formed.ascends;
  filled = all-remove (λ e. 0 < length e.1) (is_at (value_cmp value)) index formed.filled;
  lists_ascend = all-remove (λ e. IsStrictlySortedBy nat_cmp (keys_of e.1)) (is_at (value_cmp value)) index formed.lists_ascend;
}
formed-with_list value (first ∷ rest) index formed up = record {
  ascends = sorted-insert value_cmp_total index value (first ∷ rest) formed.ascends;
  filled = all_values-insert value_cmp_total (λ docs. 0 < length docs) index value (first ∷ rest) formed.filled (omega arith);
  lists_ascend = all_values-insert value_cmp_total (λ docs. IsStrictlySortedBy nat_cmp (keys_of docs)) index value (first ∷ rest) formed.lists_ascend up;
}

-- ---- the weight of a value in items

pub weight_in-kept : (value : Value) (before more : List Item) (weight : ℤ) → weight_in value before ≡ Some weight
    → weight_in value (before ++ more) ≡ Some weight
weight_in-kept value [] more weight is = cc
weight_in-kept value (item ∷ before) more weight is =
    elim (is_eq (value_cmp value item.value)) as (λ b. option_map (λ (x : Item). x.weight) (cond b (Some item) (find (λ (x : Item). is_eq (value_cmp value x.value)) before)) ≡ Some weight
    → option_map (λ (x : Item). x.weight) (cond b (Some item) (find (λ (x : Item). is_eq (value_cmp value x.value)) (before ++ more))) ≡ Some weight)
    [ true ↦ λ h. h | false ↦ λ h. weight_in-kept value before more weight h ] is

pub weight_in-new : (value : Value) (before more : List Item) → weight_in value before ≡ None
    → weight_in value (before ++ more) ≡ weight_in value more
weight_in-new value [] more none = refl
weight_in-new value (item ∷ before) more none =
    elim (is_eq (value_cmp value item.value)) as (λ b. option_map (λ (x : Item). x.weight) (cond b (Some item) (find (λ (x : Item). is_eq (value_cmp value x.value)) before)) ≡ None
    → option_map (λ (x : Item). x.weight) (cond b (Some item) (find (λ (x : Item). is_eq (value_cmp value x.value)) (before ++ more))) ≡ weight_in value more)
    [ true ↦ λ h. cc | false ↦ λ h. weight_in-new value before more h ] none

pub weight_in-first : (item : Item) (more : List Item) → weight_in item.value (item ∷ more) ≡ Some item.weight
weight_in-first item more =
    ap (λ r. option_map (λ (x : Item). x.weight) (cond (is_eq r) (Some item) (find (λ (x : Item). is_eq (value_cmp item.value x.value)) more)))
    (tied_itself value_cmp_total item.value)

pub weight_in-push_new : (item : Item) (before more : List Item) → weight_in item.value before ≡ None
    → weight_in item.value (before ++ item ∷ more) ≡ Some item.weight
weight_in-push_new item before more none = weight_in-new item.value before (item ∷ more) none ∙ weight_in-first item more

pub weight_in-push_other : (value : Value) (item : Item) (before : List Item) → is_eq (value_cmp value item.value) ≡ false
    → weight_in value (before ++ item ∷ []) ≡ weight_in value before
weight_in-push_other value item [] apart =
    ap (λ b. option_map (λ (x : Item). x.weight) (cond b (Some item) None)) apart
weight_in-push_other value item (first ∷ before) apart =
    elim (is_eq (value_cmp value first.value)) as (λ b. option_map (λ (x : Item). x.weight) (cond b (Some first) (find (λ (x : Item). is_eq (value_cmp value x.value)) (before ++ item ∷ [])))
    ≡ option_map (λ (x : Item). x.weight) (cond b (Some first) (find (λ (x : Item). is_eq (value_cmp value x.value)) before)))
    [ true ↦ refl | false ↦ weight_in-push_other value item before apart ]

-- ---- the documents that have a value

mapped_twice : (doc : ℕ) (o : Option Item)
    → option_map {U = ℕ × ℤ} (λ item. (doc, item.weight)) o ≡ option_map {U = ℕ × ℤ} (λ w. (doc, w)) (option_map (λ item. item.weight) o)
mapped_twice doc None = refl
mapped_twice doc (Some item) = refl

pub documents_with-part : (value : Value) (table : Column) → documents_with value table ≡ part (weight_in value) table
documents_with-part value table =
    λ i. filter_map (λ e. mapped_twice e.0 (find (λ item. is_eq (value_cmp value item.value)) e.1) i) table
