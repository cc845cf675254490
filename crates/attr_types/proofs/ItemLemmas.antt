-- Weighted sets as entries from value to weight, and items of which one is changed.
use Rattle.std.proofs.Common.{◌≡◌, ℕ, zero, suc, ℤ, List, [], ◌∷◌, map, Option, Some}
use Rattle.std.proofs.Common.{None, option_map, Less, Equal, Greater, refl, sym, ap, ◌∙◌, subst}
use Rattle.std.specs.BTreeMap.{insert_entry}
use Rattle.std.specs.List.{AllByRecursion, slice_get, slice_set}
use Rattle.std.specs.List.Sorted.{IsStrictlySortedBy}
use Rattle.std.specs.Map.{keys_of}
use Rattle.std.specs.Option.{IfSome, option_and_then}
use Rattle.std.specs.Ordering.{match_ordering}
use Rattle.attr_types.proofs.EntryLemmas.{all_keys-insert, sorted-insert}
use Rattle.attr_types.specs.Change.{with_item, with_items, changed_at}
use Rattle.attr_types.specs.Lawful.{AscendByValue}
use Rattle.attr_types.specs.ProofsForOrder.{value_cmp_total}
use Rattle.attr_types.specs.Value.{value_cmp, values_of}
use Rattle.attr_types.specs.declared.items.Item.{Item}
use Rattle.attr_types.specs.declared.value.Value.{Value}

-- items as entries, from value to weight
abbrev pub entry_of : Item → Value × ℤ
entry_of item = (item.value, item.weight)

abbrev pub entries_of : List Item → List (Value × ℤ)
entries_of items = map entry_of items

pub values_of-entries : (items : List Item) → values_of items ≡ keys_of (entries_of items)
values_of-entries [] = refl
values_of-entries (item ∷ items) = ap (λ values. item.value ∷ values) (values_of-entries items)

pub entries_of-with_item : (items : List Item) (item : Item)
    → entries_of (with_item items item) ≡ insert_entry value_cmp (entries_of items) item.value item.weight
entries_of-with_item [] item = refl
entries_of-with_item (first ∷ items) item =
    elim (value_cmp item.value first.value) as (λ r.
    entries_of (match_ordering r (item ∷ first ∷ items) (record first { weight = item.weight } ∷ items) (first ∷ with_item items item))
    ≡ match_ordering r (entry_of item ∷ entries_of (first ∷ items)) ((first.value, item.weight) ∷ entries_of items)
    (entry_of first ∷ insert_entry value_cmp (entries_of items) item.value item.weight))
    [ Less ↦ refl | Equal ↦ refl | Greater ↦ ap (λ es. entry_of first ∷ es) (entries_of-with_item items item) ]

values_of-with_item : (items : List Item) (item : Item)
    → values_of (with_item items item) ≡ keys_of (insert_entry value_cmp (entries_of items) item.value item.weight)
values_of-with_item items item =
    values_of-entries (with_item items item) ∙ ap keys_of (entries_of-with_item items item)

all-with_item : (P : Value → Type 0) (items : List Item) (item : Item)
    → AllByRecursion P (values_of items) → P item.value → AllByRecursion P (values_of (with_item items item))
all-with_item P items item all here =
    subst (AllByRecursion P) (sym (values_of-with_item items item))
    (all_keys-insert value_cmp_total P (entries_of items) item.value item.weight (subst (AllByRecursion P) (values_of-entries items) all) here)

pub ascend-with_item : (items : List Item) (item : Item) → AscendByValue items
    → AscendByValue (with_item items item)
ascend-with_item items item up =
    subst (IsStrictlySortedBy value_cmp) (sym (values_of-with_item items item))
    (sorted-insert value_cmp_total (entries_of items) item.value item.weight (subst (IsStrictlySortedBy value_cmp) (values_of-entries items) up))

pub all-with_items : (P : Value → Type 0) (items more : List Item)
    → AllByRecursion P (values_of items) → AllByRecursion P (values_of more)
    → AllByRecursion P (values_of (with_items items more))
all-with_items P items [] all others = all
all-with_items P items (item ∷ more) all others =
    all-with_items P (with_item items item) more (all-with_item P items item all others.0) others.1

pub ascend-with_items : (items more : List Item) → AscendByValue items → AscendByValue (with_items items more)
ascend-with_items items [] up = up
ascend-with_items items (item ∷ more) up =
    ascend-with_items (with_item items item) more (ascend-with_item items item up)

pub all_map-get : {A K : Type 0} (f : A → K) (P : K → Type 0) (xs : List A) (i : ℕ) → AllByRecursion P (map f xs)
    → (x : A) → slice_get xs i ≡ Some x → P (f x)
all_map-get f P [] i all x is = cc
all_map-get f P (y ∷ ys) zero all x is = let same : y ≡ x = cc in subst (λ a. P (f a)) same all.0
all_map-get f P (y ∷ ys) (suc i) all x is = all_map-get f P ys i all.1 x is

pub all_map-set : {A K : Type 0} (f : A → K) (P : K → Type 0) (xs : List A) (i : ℕ) (y : A)
    → AllByRecursion P (map f xs) → P (f y) → AllByRecursion P (map f (slice_set xs i y))
all_map-set f P [] i y all here = tt
all_map-set f P (x ∷ xs) zero y all here = (here, all.1)
all_map-set f P (x ∷ xs) (suc i) y all here = (all.0, all_map-set f P xs i y all.1 here)

pub all-get : {A : Type 0} (P : A → Type 0) (xs : List A) (i : ℕ) → AllByRecursion P xs → (x : A)
    → slice_get xs i ≡ Some x → P x
all-get P [] i all x is = cc
all-get P (y ∷ ys) zero all x is = let same : y ≡ x = cc in subst P same all.0
all-get P (y ∷ ys) (suc i) all x is = all-get P ys i all.1 x is

pub all-set : {A : Type 0} (P : A → Type 0) (xs : List A) (i : ℕ) (y : A) → AllByRecursion P xs → P y
    → AllByRecursion P (slice_set xs i y)
all-set P [] i y all here = tt
all-set P (x ∷ xs) zero y all here = (here, all.1)
all-set P (x ∷ xs) (suc i) y all here = (all.0, all-set P xs i y all.1 here)

-- another item of the same value leaves the values
pub values_of-set : (items : List Item) (i : ℕ) (item new : Item) → slice_get items i ≡ Some item
    → new.value ≡ item.value
    → values_of (slice_set items i new) ≡ values_of items
values_of-set [] i item new is same = refl
values_of-set (first ∷ items) zero item new is same =
    let here : first ≡ item = cc in
    ap (λ value. value ∷ values_of items) (same ∙ ap (λ (x : Item). x.value) (sym here))
values_of-set (first ∷ items) (suc i) item new is same =
    ap (λ values. first.value ∷ values) (values_of-set items i item new is same)

-- what holds where an item is found and changed holds of the answer
pub changed_at-then : (change : Item → Option Item) (items : List Item) (place : ℕ) (P : List Item → Type 0)
    → ((item new : Item) → slice_get items place ≡ Some item → change item ≡ Some new → P (slice_set items place new))
    → IfSome (changed_at change items place) P
changed_at-then change items place P then_holds = at_found (slice_get items place) refl
  where
    at_new : (item : Item) (new : Option Item) → slice_get items place ≡ Some item → change item ≡ new
        → IfSome (option_map (slice_set items place) new) P
    at_new item None is made = tt
    at_new item (Some new) is made = then_holds item new is made

    at_found : (found : Option Item) → slice_get items place ≡ found
        → IfSome (option_map (slice_set items place) (option_and_then change found)) P
    at_found None is = tt
    at_found (Some item) is = at_new item (change item) is refl
