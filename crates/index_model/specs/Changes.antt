-- The index during a change of one document's items: two walks, over the new items and then over the old.
use Rattle.std.specs.Prelude.{◌≡◌, ℕ, ℤ, Bool, false, List, [], ◌∷◌, Option, None, Some, is_some}
use Rattle.std.specs.Prelude.{if◌then◌else◌}
use Rattle.std.specs.BTreeMap.{insert_entry, is_at}
use Rattle.std.specs.Map.{lookup, remove_entry}
use Rattle.std.specs.Ordering.{nat_cmp, int_eq}
use Rattle.attr_types.specs.declared.items.Item.{Item}
use Rattle.attr_types.specs.Value.{value_cmp}
use Rattle.attr_types.specs.declared.value.Value.{Value}
use Rattle.index_model.specs.Index.{Index, IsFormed, list_of, weight_in}

abbrev pub is_weight : ℤ → Option ℤ → Bool
is_weight weight None = false
is_weight weight (Some other) = int_eq weight other

-- the list of a value during the walks: the document has the weight among the added items if there is one; otherwise
-- it is removed if the removed items have the value
abbrev pub settled : Option ℤ → Option ℤ → ℕ → List (ℕ × ℤ) → List (ℕ × ℤ)
settled (Some weight) removed doc docs = insert_entry nat_cmp docs doc weight
settled None (Some weight) doc docs = remove_entry (is_at (nat_cmp doc)) docs
settled None None doc docs = docs

-- a list has the document if and only if its items have the value, with the same weight
abbrev pub HasItems : Index → ℕ → List Item → Type 0
HasItems index doc items = (value : Value) → lookup (is_at (nat_cmp doc)) (list_of value index) ≡ weight_in value items

-- each list is the old one except for the document, by the weights added and those removed so far
pub record IsBetween (start : Index) (doc : ℕ) (added removed : Value → Option ℤ) (index : Index) : Type 0 where
  pub formed : IsFormed index
  pub lists : (value : Value) → list_of value index ≡ settled (added value) (removed value) doc (list_of value start)

-- the same, by items added and removed so far
abbrev pub IsPartway : Index → ℕ → List Item → List Item → Index → Type 0
IsPartway start doc added removed index = IsBetween start doc (λ value. weight_in value added) (λ value. weight_in value removed) index

-- the state between the walks: for each value the document has the new weight if there is one, otherwise the old one
abbrev pub first_given : Option ℤ → Option ℤ → Option ℤ
first_given (Some weight) other = Some weight
first_given None other = other

abbrev pub HasBoth : Index → ℕ → List Item → List Item → Type 0
HasBoth index doc old new = (value : Value)
    → lookup (is_at (nat_cmp doc)) (list_of value index) ≡ first_given (weight_in value new) (weight_in value old)

-- a map from value to weight, after items whose values it lacks are inserted, one after another
abbrev pub first_weights : List (Value × ℤ) → List Item → List (Value × ℤ)
first_weights es [] = es
first_weights es (item ∷ items) = first_weights
    (if is_some (lookup (is_at (value_cmp item.value)) es) then es else insert_entry value_cmp es item.value item.weight) items
