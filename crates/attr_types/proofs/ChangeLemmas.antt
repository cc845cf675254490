-- A change that fits makes items that fit of such items.
use Rattle.std.proofs.Common.{◌≡◌, ℕ, ℤ, pos, ◌+ℤ◌, ◌≤◌, Bool, true, false, cond, not, List, ◌++◌, length}
use Rattle.std.proofs.Common.{leb, leb-true, Option, Some, None, option_map, refl, sym, ap, ◌∙◌, subst, arith}
use Rattle.std.proofs.lemmas.List.{length-set}
use Rattle.std.proofs.lemmas.List.Filters.{length-filter_both}
use Rattle.std.specs.List.{filter, slice_set}
use Rattle.std.specs.List.Sorted.{IsStrictlySortedBy}
use Rattle.std.specs.Option.{IfSome, option_and_then}
use Rattle.list_lemmas.proofs.Each.{AllByRecursion-append}
use Rattle.attr_types.proofs.EntryLemmas.{all_map-append, all_map-filter, sorted_map-filter}
use Rattle.attr_types.proofs.ItemLemmas.{all-with_items, ascend-with_items, all_map-get, all_map-set, all-get, all-set}
use Rattle.attr_types.proofs.ItemLemmas.{values_of-set, changed_at-then}
use Rattle.attr_types.specs.Change.{with_items, is_named, if_within_limit, if_signed, shifted, new_value, new_weight}
use Rattle.attr_types.specs.Change.{with_new_value, with_new_weight, changed_at, place_of, changed, most_items}
use Rattle.attr_types.specs.Lawful.{HaveWeightOne, ItemsFit, ActFits, ChangeFits}
use Rattle.attr_types.specs.Value.{value_cmp, values_of, type_of, AreOfType}
use Rattle.attr_types.specs.declared.change.Act.{Act}
use Rattle.attr_types.specs.declared.change.Act.TheVariants as acts
use Rattle.attr_types.specs.declared.change.Change.{Change}
use Rattle.attr_types.specs.declared.change.Change.TheVariants.{Keep, Assign, Add, Take, Shift, At, Of}
use Rattle.attr_types.specs.declared.change.WeightAct.{WeightAct}
use Rattle.attr_types.specs.declared.items.Item.{Item}
use Rattle.attr_types.specs.declared.kind.Kind.{Kind}
use Rattle.attr_types.specs.declared.kind.Kind.TheVariants.{Single, Array, WeightedSet}
use Rattle.attr_types.specs.declared.kind.ValueType.{ValueType}
use Rattle.attr_types.specs.declared.kind.ValueType.TheVariants as types
use Rattle.attr_types.specs.declared.value.Value.{Value}
use Rattle.attr_types.specs.declared.value.Value.TheVariants as values

within_limit : (items : List Item) (P : List Item → Type 0) → (length items ≤ most_items → P items)
    → IfSome (if_within_limit items) P
within_limit items P fits = told (leb (length items) most_items) refl
  where
    told : (b : Bool) → leb (length items) most_items ≡ b → IfSome (cond b (Some items) None) P
    told true is = fits (leb-true (length items) most_items is)
    told false is = tt

-- what holds of an answer holds of the item that it is
if_some_then : {A : Type 0} (P : A → Type 0) (o : Option A) → IfSome o P → (x : A) → o ≡ Some x → P x
if_some_then {A = A} P o holds x is = subst (λ (a : Option A). IfSome a P) is holds

shifted_type : (type : ValueType) (amount : ℤ) (value : Value) → type_of value ≡ type
    → IfSome (shifted amount value) (λ moved. type_of moved ≡ type)
shifted_type type amount (values.Text text) is = tt
shifted_type type amount (values.Long number) is = told (if_signed 63 (number +ℤ amount))
  where
    told : (sum : Option ℤ) → IfSome (option_map values.Long sum) (λ moved. type_of moved ≡ type)
    told None = tt
    told (Some sum) = is

-- an item's value of the type is set or moved, and its weight stays
abbrev Acts : ValueType → Item → Item → Type 0
Acts type item new = (type_of new.value ≡ type) × (new.weight ≡ item.weight)

new_value_is : (type : ValueType) (act : Act) (old : Value) → ActFits type act → type_of old ≡ type
    → IfSome (new_value act old) (λ value. type_of value ≡ type)
new_value_is type (acts.Set value) old fits is = fits
new_value_is type (acts.Shift amount) old fits is = shifted_type type amount old is

item_acts : (type : ValueType) (act : Act) (item : Item) → ActFits type act → type_of item.value ≡ type
    → IfSome (with_new_value act item) (Acts type item)
item_acts type act item fits is =
    told (new_value act item.value) (new_value_is type act item.value fits is)
  where
    told : (new : Option Value) → IfSome new (λ value. type_of value ≡ type)
        → IfSome (option_map (λ value. record item { value = value }) new) (Acts type item)
    told None new_is = tt
    told (Some value) new_is = (new_is, refl)

-- items of weight 1, at most so many
abbrev Plain : ℕ → ValueType → List Item → Type 0
Plain most type items = ((length items ≤ most) × HaveWeightOne items) × AreOfType type (values_of items)

acted_at : (most : ℕ) (type : ValueType) (act : Act) (items : List Item) (place : ℕ) → ActFits type act
    → Plain most type items → IfSome (changed_at (with_new_value act) items place) (Plain most type)
acted_at most type act items place fits plain =
    changed_at-then (with_new_value act) items place (Plain most type) (λ item new found is.
    let typed : type_of item.value ≡ type = all_map-get (λ x. x.value) (λ v. type_of v ≡ type) items place plain.1 item found in
    let one : item.weight ≡ pos 1 = all-get (λ x. x.weight ≡ pos 1) items place plain.0.1 item found in
    let does : Acts type item new = if_some_then (Acts type item) (with_new_value act item) (item_acts type act item fits typed) new is in (
      (
        subst (λ n. n ≤ most) (sym (length-set items place new)) plain.0.0,
        all-set (λ x. x.weight ≡ pos 1) items place new plain.0.1 (does.1 ∙ one),
      ),
      all_map-set (λ x. x.value) (λ v. type_of v ≡ type) items place new plain.1 does.0,
    ))

weighs : (act : WeightAct) (item : Item) → IfSome (with_new_weight act item) (λ new. new.value ≡ item.value)
weighs act item = told (new_weight act item.weight)
  where
    told : (new : Option ℤ)
        → IfSome (option_map (λ weight. record item { weight = weight }) new) (λ new. new.value ≡ item.value)
    told None = tt
    told (Some weight) = refl

weighed_at : (type : ValueType) (act : WeightAct) (items : List Item) (place : ℕ) → ItemsFit WeightedSet type items
    → IfSome (changed_at (with_new_weight act) items place) (ItemsFit WeightedSet type)
weighed_at type act items place fits =
    changed_at-then (with_new_weight act) items place (ItemsFit WeightedSet type) (λ item new found is.
    let kept : new.value ≡ item.value = if_some_then (λ x. x.value ≡ item.value) (with_new_weight act item) (weighs act item) new is in
    let same : values_of items ≡ values_of (slice_set items place new) = sym (values_of-set items place item new found kept) in (
      (
        subst (λ n. n ≤ most_items) (sym (length-set items place new)) fits.0.0,
        subst (IsStrictlySortedBy value_cmp) same fits.0.1,
      ),
      subst (AreOfType type) same fits.1,
    ))

weighed_of : (type : ValueType) (act : WeightAct) (items : List Item) (place : Option ℕ)
    → ItemsFit WeightedSet type items
    → IfSome (option_and_then (changed_at (with_new_weight act) items) place) (ItemsFit WeightedSet type)
weighed_of type act items None fits = tt
weighed_of type act items (Some place) fits = weighed_at type act items place fits

pub changed_fits : (kind : Kind) (type : ValueType) (change : Change) (items : List Item)
    → ChangeFits kind type change
    → ItemsFit kind type items → IfSome (changed kind type change items) (ItemsFit kind type)
changed_fits kind type Keep items fits lawful = lawful
changed_fits kind type (Assign others) items fits lawful = fits
changed_fits Single type (Add more) items fits lawful = tt
changed_fits Array type (Add more) items fits lawful =
    within_limit (items ++ more) (ItemsFit Array type) (λ short. (
      (short, AllByRecursion-append (λ item. item.weight ≡ pos 1) items more lawful.0.1 fits.0.1),
      all_map-append (λ item. item.value) (λ value. type_of value ≡ type) items more lawful.1 fits.1,
    ))
changed_fits WeightedSet type (Add more) items fits lawful =
    within_limit (with_items items more) (ItemsFit WeightedSet type) (λ short. (
      (short, ascend-with_items items more lawful.0.1),
      all-with_items (λ value. type_of value ≡ type) items more lawful.1 fits.1,
    ))
changed_fits Single type (Take names) items fits lawful = tt
changed_fits Array type (Take names) items fits lawful = tt
changed_fits WeightedSet type (Take names) items fits lawful =
    let stays : Item → Bool = λ item. not (is_named names item) in
    let short : length (filter stays items) ≤ most_items = omega (arith, length-filter_both stays (λ item. not (stays item)) (λ _. refl) items, lawful.0.0) in (
      (short, sorted_map-filter value_cmp (λ item. item.value) stays items lawful.0.1),
      all_map-filter (λ item. item.value) (λ value. type_of value ≡ type) stays items lawful.1,
    )
changed_fits Single types.Long (Shift amount) items fits lawful =
    acted_at 1 types.Long (acts.Shift amount) items 0 tt lawful
changed_fits Single types.Text (Shift amount) items fits lawful = tt
changed_fits Array type (Shift amount) items fits lawful = tt
changed_fits WeightedSet type (Shift amount) items fits lawful = tt
changed_fits Single type (At index act) items fits lawful = tt
changed_fits Array type (At index act) items fits lawful = acted_at most_items type act items index fits lawful
changed_fits WeightedSet type (At index act) items fits lawful = tt
changed_fits Single type (Of value act) items fits lawful = tt
changed_fits Array type (Of value act) items fits lawful = tt
changed_fits WeightedSet type (Of value act) items fits lawful = weighed_of type act items (place_of value items) lawful
