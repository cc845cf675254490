-- Of which width a step was refused, by the column after the change.
use Rattle.std.proofs.Common.{◌≡◌, Bool, ℕ, ℤ, List, [], length, Option, Some, None, nat_cmp, refl, sym, ap, subst, ◌∙◌, inl, inr}
use Rattle.std.proofs.lemmas.Cmp.{nat_cmp_total}
use Rattle.std.specs.Prelude.{◌⊎◌, IsSome, unwrap_or}
use Rattle.std.specs.BTreeMap.{insert_entry}
use Rattle.std.specs.List.Sorted.{IsStrictlySortedBy}
use Rattle.std.specs.Map.{keys_of}
use Rattle.std.specs.Option.{is_some}
use Rattle.index_model.proofs.ChangeLemmas.{documents_with-at, documents_with-change, settled_is}
use Rattle.index_model.proofs.ListLemmas.{list_of-sorted}
use Rattle.index_model.proofs.PartLemmas.{insert_same, placed}
use Rattle.index_model.specs.Changes.{first_weights, settled, IsBetween}
use Rattle.index_model.specs.Columns.{Column, documents_with, items_of, with_change}
use Rattle.index_model.specs.Index.{Index, IsIndexOf, list_of, weight_in}
use Rattle.attr_types.proofs.EntryLemmas.{lookup-insert_here, sorted-insert}
use Rattle.attr_types.specs.declared.items.Item.{Item}
use Rattle.attr_types.specs.declared.kind.Kind.{Kind}
use Rattle.attr_types.specs.declared.value.Value.{Value}
use Rattle.value_index.specs.Changes.{IsValueWidth}
use Rattle.value_index.specs.Widths.{IsWalkWidth}
use Rattle.attr_field.specs.Widths.{IsFieldWidth}
use Rattle.attr_field.proofs.ChangeLemmas.{weights}
use Rattle.attr_field.proofs.WeightLemmas.{weights_are}

-- ---- the list of a value after one walk or both
settled_added : (doc : ℕ) (added removed : Option ℤ) (docs : List (ℕ × ℤ)) → IsSome added → settled added None doc docs ≡ settled added removed doc docs
settled_added doc None removed docs some = cc
settled_added doc (Some weight) removed docs some = refl

settled_twice : (doc : ℕ) (added removed : Option ℤ) (docs : List (ℕ × ℤ)) → IsStrictlySortedBy nat_cmp (keys_of docs)
    → settled added removed doc (settled added None doc docs) ≡ settled added removed doc docs
settled_twice doc (Some weight) removed docs up =
    insert_same doc weight (insert_entry nat_cmp docs doc weight) (sorted-insert nat_cmp_total docs doc weight up) (lookup-insert_here nat_cmp_total docs doc weight)
settled_twice doc None removed docs up = refl

none_is : {X : Type 0} → IsSome {T = ℤ} None → X
none_is some = cc

-- ---- the document's items change in a column, from these weights to those
module _ (dense : Bool) (kind : Kind) (column : Column) (start : Index) (doc : ℕ) (new : Option (List Item)) (up : IsStrictlySortedBy nat_cmp (keys_of column)) (of : IsIndexOf column start)
    (old after : List (Value × ℤ)) (before : old ≡ first_weights [] (items_of column doc)) (are : after ≡ first_weights [] (unwrap_or new [])) where
  abbrev next : Column
  next = with_change column doc new

  had_after : (value : Value) → IsSome (weights after value) → IsSome (weight_in value (unwrap_or new []))
  had_after value some = sym (ap is_some (weights_are after (unwrap_or new []) are value)) ∙ some

  had_before : (value : Value) → IsSome (weights old value) → IsSome (weight_in value (items_of column doc))
  had_before value some = sym (ap is_some (weights_are old (items_of column doc) before value)) ∙ some

  both : (value : Value) → settled (weights after value) (weights old value) doc (list_of value start) ≡ documents_with value next
  both value =
      let docs = documents_with value column in
      ap (settled (weights after value) (weights old value) doc) (of.lists value)
      ∙ settled_is doc (weights after value) (weights old value) docs (documents_with-at column doc value up ∙ sym (weights_are old (items_of column doc) before value))
      ∙ ap (λ (o : Option ℤ). placed o doc docs) (weights_are after (unwrap_or new []) are value)
      ∙ sym (documents_with-change column doc new value up)

  -- the first walk
  pub added_width : (w : ℕ) → IsWalkWidth dense start doc (weights after) (λ v. None) w → IsFieldWidth dense kind next (items_of column doc) (unwrap_or new []) w
  added_width w (inl node) = inl (inl node)
  added_width w (inr one) =
      let value = one.value in
      let some : IsSome (weights after value) = told value one.walked in
      let lists = settled_added doc (weights after value) (weights old value) (list_of value start) some ∙ both value in
      inr (record {
        value = value;
        had = inr (had_after value some);
        is = subst (λ (docs : List (ℕ × ℤ)). IsValueWidth dense value (length docs) w) lists one.is;
      })
    where
      told : (value : Value) → IsSome (weights after value) ⊎ IsSome {T = ℤ} None → IsSome (weights after value)
      told value (inl some) = some
      told value (inr none) = none_is none

  -- the second
  module _ (middle : Index) (added : IsBetween start doc (weights after) (λ v. None) middle) where
    again : (value : Value) → settled (weights after value) (weights old value) doc (list_of value middle) ≡ documents_with value next
    again value =
        ap (settled (weights after value) (weights old value) doc) (added.lists value)
        ∙ settled_twice doc (weights after value) (weights old value) (list_of value start) (list_of-sorted value start of.formed)
        ∙ both value

    pub removed_width : (w : ℕ) → IsWalkWidth dense middle doc (weights after) (weights old) w → IsFieldWidth dense kind next (items_of column doc) (unwrap_or new []) w
    removed_width w (inl node) = inl (inl node)
    removed_width w (inr one) = inr (record {
      value = one.value;
      had = told one.value one.walked;
      is = subst (λ (docs : List (ℕ × ℤ)). IsValueWidth dense one.value (length docs) w) (again one.value) one.is;
    })
      where
        told : (value : Value) → IsSome (weights after value) ⊎ IsSome (weights old value)
            → IsSome (weight_in value (items_of column doc)) ⊎ IsSome (weight_in value (unwrap_or new []))
        told value (inl some) = inr (had_after value some)
        told value (inr some) = inl (had_before value some)
