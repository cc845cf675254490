-- What a program meets at a step: its pair is there, a list that becomes empty, keys that keep their place.
use Rattle.std.proofs.Common.{◌≡◌, ◌<◌, ℕ, ℤ, cond, List, [], ◌∷◌, length, Option, Some, None, IsSome, arith}
use Rattle.std.proofs.Common.{nat_cmp, is_eq, refl, sym, ap, ◌∙◌, subst, Ordering, Less, Equal, Greater}
use Rattle.std.specs.BTreeMap.{insert_entry, is_at}
use Rattle.std.specs.Cmp.{IsTotalOrder}
use Rattle.std.specs.List.{AllByRecursion}
use Rattle.std.specs.List.Sorted.{IsStrictlySortedBy}
use Rattle.std.specs.Map.{keys_of, lookup, remove_entry}
use Rattle.std.specs.Option.{unwrap_or}
use Rattle.std.specs.Ordering.{match_ordering}
use Rattle.index_model.proofs.OfLemmas.{lookup_above}
use Rattle.attr_types.proofs.EntryLemmas.{below_all}
use Rattle.attr_types.specs.Value.{value_cmp}
use Rattle.attr_types.specs.ProofsForOrder.{value_cmp_total}
use Rattle.attr_types.specs.declared.items.Item.{Item}
use Rattle.attr_types.specs.declared.value.Value.{Value}
use Rattle.index_model.specs.Columns.{Column, documents_with, with_change}
use Rattle.index_model.proofs.PartLemmas.{placed}
use Rattle.index_model.proofs.ChangeLemmas.{documents_with-change, untouched}
use Rattle.index_model.specs.Index.{Index, IsFormed, IsIndexOf, list_of, with_list, with_posting, without_posting, weight_in}
use Rattle.index_model.specs.Changes.{IsPartway}

-- ---- keys

module _ {K X : Type 0} {R : K → K → Ordering} (o : IsTotalOrder R) where
  keys_at : (r : Ordering) (k : K) (x : X) (e : K × X) (es : List (K × X)) → R k e.0 ≡ r
      → AllByRecursion (λ y. R e.0 y ≡ Less) (keys_of es) → IsSome (cond (is_eq r) (Some e.1) (lookup (is_at (R k)) es))
      → (IsSome (lookup (is_at (R k)) es) → keys_of (insert_entry R es k x) ≡ keys_of es)
      → keys_of (match_ordering r ((k, x) ∷ e ∷ es) ((e.0, x) ∷ es) (e ∷ insert_entry R es k x)) ≡ keys_of (e ∷ es)
  keys_at Less k x e es is up there rest =
      let some : IsSome {T = X} None = subst IsSome (lookup_above R k es (below_all o k e.0 is (keys_of es) up)) there in
      cc
  keys_at Equal k x e es is up there rest = refl
  keys_at Greater k x e es is up there rest = ap (λ ks. e.0 ∷ ks) (rest there)

  pub keys-insert_there : (es : List (K × X)) (k : K) (x : X) → IsStrictlySortedBy R (keys_of es)
      → IsSome (lookup (is_at (R k)) es) → keys_of (insert_entry R es k x) ≡ keys_of es
  unfolding IsStrictlySortedBy
  keys-insert_there [] k x up there = cc
  keys-insert_there (e ∷ es) k x up there = keys_at (R k e.0) k x e es refl up.0 there (keys-insert_there es k x up.1)

-- the values of an index keep their places where a list that is there becomes another that is not empty
pub keys-with_list : (value : Value) (first : ℕ × ℤ) (rest : List (ℕ × ℤ)) (index : Index) → IsFormed index
    → IsSome (lookup (is_at (value_cmp value)) index) → keys_of (with_list value (first ∷ rest) index) ≡ keys_of index
keys-with_list value first rest index formed there =
    keys-insert_there value_cmp_total index value (first ∷ rest) formed.ascends there

length-insert : {Z : Type 0} (k : ℕ) (z : Z) (es : List (ℕ × Z)) → 0 < length (insert_entry nat_cmp es k z)
length-insert k z [] = omega arith
length-insert k z (e ∷ es) =
    elim (nat_cmp k e.0) as (λ r. 0 < length (match_ordering r ((k, z) ∷ e ∷ es) ((e.0, z) ∷ es) (e ∷ insert_entry nat_cmp es k z)))
    [ Less ↦ omega arith | Equal ↦ omega arith | Greater ↦ omega arith ]

module _ (start : Index) (doc : ℕ) where
  -- what it leaves is the list of the value in the new table: where that is empty, no document has it
  pub removal-leaves : (table : Column) (new : Option (List Item)) (removed : List Item) (value : Value) (index : Index)
      → IsStrictlySortedBy nat_cmp (keys_of table) → IsIndexOf table start
      → IsPartway start doc (unwrap_or new []) removed index
      → weight_in value (unwrap_or new []) ≡ None → weight_in value removed ≡ None
      → remove_entry (is_at (nat_cmp doc)) (list_of value index) ≡ documents_with value (with_change table doc new)
  removal-leaves table new removed value index up of p gone none =
      ap (remove_entry (is_at (nat_cmp doc))) (untouched start doc (unwrap_or new []) removed index value p gone none ∙ of.lists value)
      ∙ sym (ap (λ o. placed o doc (documents_with value table)) gone) ∙ sym (documents_with-change table doc new value up)

-- a lookup after an addition: a value that was there keeps its place, and a new one comes to its own
pub keys-with_posting : (value : Value) (doc : ℕ) (weight : ℤ) (index : Index) → IsFormed index
    → IsSome (lookup (is_at (value_cmp value)) index) → keys_of (with_posting value doc weight index) ≡ keys_of index
keys-with_posting value doc weight index formed there = told (insert_entry nat_cmp (list_of value index) doc weight) (length-insert doc weight (list_of value index))
  where
    told : (docs : List (ℕ × ℤ)) → 0 < length docs → keys_of (with_list value docs index) ≡ keys_of index
    told [] long = absurd (omega arith)
    told (first ∷ rest) long = keys-with_list value first rest index formed there

-- so it does after a removal that leaves a document
pub keys-without_posting : (value : Value) (doc : ℕ) (index : Index) → IsFormed index
    → IsSome (lookup (is_at (value_cmp value)) index) → 0 < length (remove_entry (is_at (nat_cmp doc)) (list_of value index))
    → keys_of (without_posting value doc index) ≡ keys_of index
keys-without_posting value doc index formed there = told (remove_entry (is_at (nat_cmp doc)) (list_of value index))
  where
    told : (docs : List (ℕ × ℤ)) → 0 < length docs → keys_of (with_list value docs index) ≡ keys_of index
    told [] long = absurd (omega arith)
    told (first ∷ rest) long = keys-with_list value first rest index formed there
