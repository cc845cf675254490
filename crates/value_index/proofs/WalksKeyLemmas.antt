-- Keys through several calls, and what a call of a walk is of one type.
use Rattle.std.proofs.Common.{◌≡◌, ℕ, ℤ, ◌<◌, List, [], ◌∷◌, ◌++◌, length, nat_cmp, Less, Equal, Greater, Option, Some, None, refl, sym, ap, subst, ◌∙◌, arith}
use Rattle.std.specs.BTreeMap.{insert_entry, is_at}
use Rattle.std.specs.Map.{keys_of, remove_entry}
use Rattle.std.specs.Ordering.{match_ordering}
use Rattle.entry_ref.specs.Records.{Records}
use Rattle.image_format.specs.Postings.{index_of}
use Rattle.image_format.specs.Values.{stored_value, value_of}
use Rattle.index_model.proofs.ChangeLemmas.{by_value}
use Rattle.index_model.proofs.ListLemmas.{list_of-with_list_here, list_of-with_list_other}
use Rattle.index_model.specs.Changes.{settled}
use Rattle.index_model.specs.Index.{Index, IsFormed, list_of, without_posting}
use Rattle.attr_types.specs.Value.{type_of, AreOfType}
use Rattle.attr_types.specs.declared.kind.ValueType.{ValueType}
use Rattle.attr_types.specs.declared.value.Value.{Value}
use Rattle.value_index.specs.Changes.{KeepsKeys}
use Rattle.value_index.specs.Indexes.{IsKey}

-- the value of an entry is of the type of all
pub typed_at : (type : ValueType) (done more : List (Value × ℤ)) (value : Value) (weight : ℤ) → AreOfType type (keys_of (done ++ (value, weight) ∷ more))
    → type_of value ≡ type
typed_at type [] more value weight typed = typed.0
typed_at type (e ∷ done) more value weight typed = typed_at type done more value weight typed.1

-- no key
pub keeps_same : (type : ValueType) (m : Records) (root : ℕ) → KeepsKeys type m m root root
keeps_same type m root = record { kept = λ ref key listed. (key, refl) }

-- keys through two calls, where each value that is there at the end was there between
pub keeps_then : (type : ValueType) (k m n : Records) (first root next : ℕ) → KeepsKeys type k m first root → KeepsKeys type m n root next
    → ((ref : ℕ) → IsKey k first ref → 0 < length (list_of (stored_value type k ref) (index_of type n next))
    → 0 < length (list_of (stored_value type k ref) (index_of type m root)))
    → KeepsKeys type k n first next
keeps_then type k m n first root next a b between = record {
  kept = λ ref key listed. (
      let one = a.kept ref key (between ref key listed) in
      let value : stored_value type k ref ≡ stored_value type m ref = ap (value_of type) (sym one.1) in
      let two = b.kept ref one.0 (subst (λ v. 0 < length (list_of v (index_of type n next))) value listed) in
      (two.0, two.1 ∙ one.1)
      );
}

-- an addition leaves no list empty
pub insert_long : (doc : ℕ) (weight : ℤ) (docs : List (ℕ × ℤ)) → 0 < length (insert_entry nat_cmp docs doc weight)
insert_long doc weight [] = omega arith
insert_long doc weight (e ∷ docs) =
    elim (nat_cmp doc e.0) as (λ r. 0 < length (match_ordering r ((doc, weight) ∷ e ∷ docs) ((e.0, weight) ∷ docs) (e ∷ insert_entry nat_cmp docs doc weight)))
    [ Less ↦ omega arith | Equal ↦ omega arith | Greater ↦ omega arith ]

pub settled_long : (o : Option ℤ) (doc : ℕ) (docs : List (ℕ × ℤ)) → 0 < length docs → 0 < length (settled o None doc docs)
settled_long (Some weight) doc docs long = insert_long doc weight docs
settled_long None doc docs long = long

-- a removal leaves no list that was none
remove_long : (doc : ℕ) (docs : List (ℕ × ℤ)) → 0 < length (remove_entry (is_at (nat_cmp doc)) docs) → 0 < length docs
remove_long doc [] long = long
remove_long doc (e ∷ docs) long = omega arith

pub without_long : (value : Value) (doc : ℕ) (index : Index) → IsFormed index → (q : Value)
    → 0 < length (list_of q (without_posting value doc index)) → 0 < length (list_of q index)
without_long value doc index formed =
    let docs = remove_entry (is_at (nat_cmp doc)) (list_of value index) in
    by_value (λ q. 0 < length (list_of q (without_posting value doc index)) → 0 < length (list_of q index)) value
    (λ long. remove_long doc (list_of value index) (subst (λ ds. 0 < length ds) (list_of-with_list_here value docs index formed) long))
    (λ q apart long. subst (λ ds. 0 < length ds) (list_of-with_list_other value docs index q formed apart) long)
