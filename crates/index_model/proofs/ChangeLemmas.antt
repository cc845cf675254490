-- The two walks, from the index of a column to that of the column changed.
use Rattle.std.proofs.Common.{◌≡◌, ℕ, ℤ, Bool, true, false, List, [], Option, Some, None}
use Rattle.std.proofs.Common.{nat_cmp, is_eq, refl, sym, ap, ◌∙◌, subst}
use Rattle.std.specs.BTreeMap.{insert_entry, is_at}
use Rattle.std.specs.List.Sorted.{IsStrictlySortedBy}
use Rattle.std.specs.Map.{keys_of, lookup, remove_entry}
use Rattle.std.specs.Option.{option_and_then, unwrap_or}
use Rattle.attr_types.specs.Value.{value_cmp}
use Rattle.attr_types.specs.declared.items.Item.{Item}
use Rattle.attr_types.specs.declared.value.Value.{Value}
use Rattle.index_model.specs.Columns.{Column, documents_with, items_of, with_change}
use Rattle.index_model.proofs.PartLemmas.{placed, sorted-part, part-insert, part-remove, lookup-part, remove_none}
use Rattle.index_model.proofs.ListLemmas.{same_value}
use Rattle.index_model.proofs.ListLemmas.{documents_with-part}
use Rattle.index_model.specs.Index.{Index, IsFormed, IsIndexOf, list_of, weight_in}
use Rattle.index_model.specs.Changes.{HasItems, settled, IsPartway}

-- ---- the tables

-- the weight with which a document stands in a value's list is that of the value in its items
pub documents_with-at : (table : Column) (doc : ℕ) (value : Value) → IsStrictlySortedBy nat_cmp (keys_of table)
    → lookup (is_at (nat_cmp doc)) (documents_with value table) ≡ weight_in value (items_of table doc)
documents_with-at table doc value up =
    ap (lookup (is_at (nat_cmp doc))) (documents_with-part value table)
    ∙ lookup-part (weight_in value) table doc up ∙ at_none (lookup (is_at (nat_cmp doc)) table)
  where
    at_none : (o : Option (List Item)) → option_and_then (weight_in value) o ≡ weight_in value (unwrap_or o [])
    at_none None = refl
    at_none (Some items) = refl

pub documents_with-sorted : (table : Column) (value : Value) → IsStrictlySortedBy nat_cmp (keys_of table)
    → IsStrictlySortedBy nat_cmp (keys_of (documents_with value table))
documents_with-sorted table value up =
    subst (λ docs. IsStrictlySortedBy nat_cmp (keys_of docs)) (sym (documents_with-part value table))
    (sorted-part (weight_in value) table up)

-- a value's list in the table changed
pub documents_with-change : (table : Column) (doc : ℕ) (new : Option (List Item)) (value : Value)
    → IsStrictlySortedBy nat_cmp (keys_of table)
    → documents_with value (with_change table doc new) ≡ placed (weight_in value (unwrap_or new [])) doc (documents_with value table)
documents_with-change table doc None value up =
    documents_with-part value (remove_entry (is_at (nat_cmp doc)) table) ∙ part-remove (weight_in value) table doc up
    ∙ ap (placed None doc) (sym (documents_with-part value table))
documents_with-change table doc (Some items) value up =
    documents_with-part value (insert_entry nat_cmp table doc items) ∙ part-insert (weight_in value) table doc items up
    ∙ ap (placed (weight_in value items) doc) (sym (documents_with-part value table))

pub by_value : (P : Value → Type 0) (value : Value) → P value → ((q : Value) → is_eq (value_cmp q value) ≡ false → P q) → (q : Value) → P q
by_value P value here other q = told (is_eq (value_cmp q value)) refl
  where
    told : (b : Bool) → is_eq (value_cmp q value) ≡ b → P q
    told true is = subst P (sym (same_value q value is)) here
    told false is = other q is

module _ (start : Index) (doc : ℕ) where
  pub begins : IsFormed start → IsPartway start doc [] [] start
  begins formed = record { formed = formed; lists = λ q. refl }

  -- the list of a value that no item has so far is the old one
  pub untouched : (added removed : List Item) (index : Index) (value : Value) → IsPartway start doc added removed index
      → weight_in value added ≡ None → weight_in value removed ≡ None → list_of value index ≡ list_of value start
  untouched added removed index value p lacks none =
      p.lists value
      ∙ ap (λ o. settled o (weight_in value removed) doc (list_of value start)) lacks
      ∙ ap (λ o. settled None o doc (list_of value start)) none

-- ---- the tables at both ends

pub has_items : (table : Column) (start : Index) (doc : ℕ) → IsStrictlySortedBy nat_cmp (keys_of table) → IsIndexOf table start
    → HasItems start doc (items_of table doc)
has_items table start doc up of value = ap (lookup (is_at (nat_cmp doc))) (of.lists value) ∙ documents_with-at table doc value up

pub settled_is : (doc : ℕ) (added removed : Option ℤ) (docs : List (ℕ × ℤ)) → lookup (is_at (nat_cmp doc)) docs ≡ removed
    → settled added removed doc docs ≡ placed added doc docs
settled_is doc (Some weight) removed docs there = refl
settled_is doc None (Some weight) docs there = refl
settled_is doc None None docs there = sym (remove_none doc docs there)

pub ends : (table : Column) (start : Index) (doc : ℕ) (new : Option (List Item)) (index : Index)
    → IsStrictlySortedBy nat_cmp (keys_of table) → IsIndexOf table start
    → IsPartway start doc (unwrap_or new []) (items_of table doc) index → IsIndexOf (with_change table doc new) index
ends table start doc new index up of p = record {
  formed = p.formed;
  lists = λ q. p.lists q
      ∙ ap (settled (weight_in q (unwrap_or new [])) (weight_in q (items_of table doc)) doc) (of.lists q)
      ∙ settled_is doc (weight_in q (unwrap_or new [])) (weight_in q (items_of table doc)) (documents_with q table) (documents_with-at table doc q up)
      ∙ sym (documents_with-change table doc new q up);
}
