-- Which values are in the index between the tables, and which are in it no more.
use Rattle.std.proofs.Common.{◌≡◌, ◌<◌, ℕ, ℤ, true, List, [], ◌∷◌, length, Option, Some, None, IsSome}
use Rattle.std.proofs.Common.{nat_cmp, refl, sym, ap, ◌∙◌, Less, Equal, Greater}
use Rattle.std.proofs.lemmas.Cmp.{eq_by_cmp_equiv}
use Rattle.std.proofs.lemmas.Map.Views.{list_any-from_Contains}
use Rattle.std.specs.BTreeMap.{insert_entry, is_at}
use Rattle.std.specs.List.{Contains}
use Rattle.std.specs.List.Sorted.{IsStrictlySortedBy}
use Rattle.std.specs.Map.{keys_of, lookup, remove_entry}
use Rattle.std.specs.Option.{unwrap_or}
use Rattle.std.specs.Ordering.{match_ordering}
use Rattle.attr_types.proofs.EntryLemmas.{all-lookup}
use Rattle.attr_types.specs.Value.{value_cmp}
use Rattle.attr_types.specs.ProofsForOrder.{value_cmp_total}
use Rattle.attr_types.specs.declared.items.Item.{Item}
use Rattle.attr_types.specs.declared.value.Value.{Value}
use Rattle.index_model.specs.Columns.{Column, column_values, with_change}
use Rattle.index_model.proofs.PartLemmas.{placed}
use Rattle.index_model.proofs.ChangeLemmas.{documents_with-change}
use Rattle.index_model.proofs.OfLemmas.{has_some, has_some-length, any-table, no_documents}
use Rattle.index_model.proofs.UseLemmas.{removal-leaves}
use Rattle.index_model.specs.Index.{Index, IsFormed, IsIndexOf, list_of, weight_in}
use Rattle.index_model.specs.Changes.{settled, IsPartway}

pub there_then : (value : Value) (index : Index) → IsFormed index → IsSome (lookup (is_at (value_cmp value)) index)
    → has_some (list_of value index) ≡ true
there_then value index formed there = told (lookup (is_at (value_cmp value)) index) refl there
  where
    told : (o : Option (List (ℕ × ℤ))) → lookup (is_at (value_cmp value)) index ≡ o → IsSome o → has_some (unwrap_or o []) ≡ true
    told None is some = cc
    told (Some docs) is some =
        has_some-length docs (all-lookup (λ (ds : List (ℕ × ℤ)). 0 < length ds) (is_at (value_cmp value)) index formed.filled docs is)

then_there : (value : Value) (index : Index) → has_some (list_of value index) ≡ true → IsSome (lookup (is_at (value_cmp value)) index)
then_there value index some = told (lookup (is_at (value_cmp value)) index) some
  where
    told : (o : Option (List (ℕ × ℤ))) → has_some (unwrap_or o []) ≡ true → IsSome o
    told None some = cc
    told (Some docs) some = refl

some-insert : (doc : ℕ) (weight : ℤ) (docs : List (ℕ × ℤ)) → has_some (insert_entry nat_cmp docs doc weight) ≡ true
some-insert doc weight [] = refl
some-insert doc weight (e ∷ es) =
    elim (nat_cmp doc e.0) as (λ r. has_some (match_ordering r ((doc, weight) ∷ e ∷ es) ((e.0, weight) ∷ es) (e ∷ insert_entry nat_cmp es doc weight)) ≡ true)
    [ Less ↦ refl | Equal ↦ refl | Greater ↦ refl ]

pub some-remove : (doc : ℕ) (docs : List (ℕ × ℤ)) → has_some (remove_entry (is_at (nat_cmp doc)) docs) ≡ true → has_some docs ≡ true
some-remove doc [] some = some
some-remove doc (e ∷ es) some = refl

-- in the first walk every value stays
pub old_values_stay : (start : Index) (doc : ℕ) (added : List Item) (index : Index) (value : Value) → IsFormed start
    → IsPartway start doc added [] index → IsSome (lookup (is_at (value_cmp value)) start) → IsSome (lookup (is_at (value_cmp value)) index)
old_values_stay start doc added index value formed p there =
    then_there value index (ap has_some (p.lists value) ∙ told (weight_in value added))
  where
    told : (o : Option ℤ) → has_some (settled o None doc (list_of value start)) ≡ true
    told (Some weight) = some-insert doc weight (list_of value start)
    told None = there_then value start formed there

-- in the second walk every value of the new table stays
pub new_values_stay : (table : Column) (start : Index) (doc : ℕ) (new : Option (List Item)) (removed : List Item) (index : Index) (value : Value)
    → IsStrictlySortedBy nat_cmp (keys_of table) → IsIndexOf table start → IsPartway start doc (unwrap_or new []) removed index
    → Contains (column_values (with_change table doc new)) value → IsSome (lookup (is_at (value_cmp value)) index)
new_values_stay table start doc new removed index value up of p there =
    then_there value index (ap has_some (p.lists value) ∙ told (weight_in value (unwrap_or new [])) (weight_in value removed) wanted)
  where
    wanted : has_some (placed (weight_in value (unwrap_or new [])) doc (list_of value start)) ≡ true
    wanted =
        ap has_some (ap (placed (weight_in value (unwrap_or new [])) doc) (of.lists value) ∙ sym (documents_with-change table doc new value up))
        ∙ sym (any-table value (with_change table doc new))
        ∙ list_any-from_Contains (eq_by_cmp_equiv value_cmp_total) value (column_values (with_change table doc new)) there

    told : (o r : Option ℤ) → has_some (placed o doc (list_of value start)) ≡ true → has_some (settled o r doc (list_of value start)) ≡ true
    told (Some weight) r some = some
    told None (Some weight) some = some
    told None None some = some-remove doc (list_of value start) some

-- a value whose list a removal empties is no item's in the new table
pub removed_is_gone : (table : Column) (start : Index) (doc : ℕ) (new : Option (List Item)) (removed : List Item) (index : Index) (value : Value)
    → IsStrictlySortedBy nat_cmp (keys_of table) → IsIndexOf table start → IsPartway start doc (unwrap_or new []) removed index
    → weight_in value (unwrap_or new []) ≡ None → weight_in value removed ≡ None
    → remove_entry (is_at (nat_cmp doc)) (list_of value index) ≡ []
    → Contains (column_values (with_change table doc new)) value → ⊥
removed_is_gone table start doc new removed index value up of p gone none empty =
    no_documents value (with_change table doc new)
    (sym (removal-leaves start doc table new removed value index up of p gone none) ∙ empty)
