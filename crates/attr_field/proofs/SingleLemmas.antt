-- The steps of a change of a document that had at most one item, and has at most one: a walk over one entry or over none.
use Rattle.std.proofs.Common.{◌≡◌, ℕ, ℤ, ◌*◌, ◌≤◌, ◌≢◌, Bool, true, false, cond, is_eq, List, [], ◌∷◌, length, Option, None, Some, Result, Ok, Err, nat_cmp, refl, sym, ap, subst, ◌∙◌, arith}
use Rattle.std.proofs.lemmas.Bool.Decides.{Decides-int_eq}
use Rattle.std.specs.Prelude.{IfOk, slice_get, take, unwrap_or}
use Rattle.std.specs.BTreeMap.{insert_entry, is_at}
use Rattle.std.specs.List.{AllByRecursion, count_by}
use Rattle.std.specs.List.Sorted.{IsStrictlySortedBy}
use Rattle.std.specs.Map.{keys_of, lookup, remove_entry}
use Rattle.list_lemmas.proofs.Options.{same_Some}
use Rattle.entry_ref.specs.Records.{Records}
use Rattle.store_api.proofs.May.{may_do-same}
use Rattle.store_api.specs.Ledgers.{Ledger}
use Rattle.store_api.specs.Parts.{Owns}
use Rattle.store_api.specs.Units.{MayDo, MakesWithin}
use Rattle.image_format.specs.Postings.{index_of}
use Rattle.index_model.specs.Changes.{first_weights}
use Rattle.index_model.specs.Columns.{Column, IsLawfulColumn, items_of}
use Rattle.index_model.specs.Index.{IsFormed, list_of, with_posting, without_posting}
use Rattle.attr_types.proofs.EntryLemmas.{all-lookup}
use Rattle.attr_types.specs.Lawful.{HaveWeightOne, IsLawfulItems}
use Rattle.attr_types.specs.Value.{value_cmp}
use Rattle.attr_types.specs.declared.items.Item.{Item}
use Rattle.attr_types.specs.declared.kind.Kind.{Kind}
use Rattle.attr_types.specs.declared.kind.Kind.TheVariants.{Single}
use Rattle.attr_types.specs.declared.kind.ValueType.{ValueType}
use Rattle.attr_types.specs.declared.value.Value.{Value}
use Rattle.value_index.proofs.AddLemmas.{AddsSoFar, adds_begin, adds_put, adds_end}
use Rattle.value_index.proofs.RemoveLemmas.{HasBothAt, IsThere, RemovesSoFar, removes_begin, removes_there, removes_take, removes_end}
use Rattle.value_index.proofs.WalksCountLemmas.{counts_begin, counts_put, counts_end}
use Rattle.value_index.proofs.WidthLemmas.{put_width, take_width}
use Rattle.value_index.specs.Changes.{IsChangeWidth, MakesIndex}
use Rattle.value_index.specs.Counts.{besides, by_width, walk_records}
use Rattle.value_index.specs.Indexes.{index_part, IsIndex, IsKey}
use Rattle.value_index.specs.Laws.{KeyIsRead}
use Rattle.value_index.specs.Walks.{WalksIndex}
use Rattle.value_index.specs.Widths.{IsWalkWidth}
use Rattle.attr_field.specs.Counts.{item_weights}
use Rattle.attr_field.specs.DocumentsChanges.{AreKeysOf}
use Rattle.attr_field.specs.Steps.{FindsItemKey, GivesWeights, IsMadeBy}
use Rattle.attr_field.specs.declared.weights.Weights.{Weights}
use Rattle.attr_field.proofs.ChangeLemmas.{weights}
use Rattle.attr_field.proofs.CompareLemmas.{parts_same}

-- ---- the items
pub first_only : (items : List Item) (item : Item) → slice_get items 0 ≡ Some item → length items ≤ 1 → items ≡ item ∷ []
first_only [] item at few = cc
first_only (x ∷ []) item at few = ap (λ (y : Item). y ∷ []) (same_Some x item at)
first_only (x ∷ y ∷ items) item at few = absurd (omega arith)

pub first_none : (items : List Item) → slice_get items 0 ≡ None → items ≡ []
first_none [] at = refl
first_none (x ∷ items) at = cc

pub entry_only : (items : List Item) (item : Item) → items ≡ item ∷ [] → first_weights [] items ≡ (item.value, item.weight) ∷ []
entry_only items item is = ap (first_weights []) is

pub entry_none : (items : List Item) → items ≡ [] → first_weights [] items ≡ []
entry_none items is = ap (first_weights []) is

-- two facts of one answer
pub both_ok : {A E : Type 0} (P Q : A → Type 0) (r : Result A E) → IfOk r P → IfOk r Q → IfOk r (λ a. P a × Q a)
both_ok P Q (Ok a) p q = (p, q)
both_ok P Q (Err e) p q = tt

one_sorted : (value : Value) (weight : ℤ) (entries : List (Value × ℤ)) → entries ≡ (value, weight) ∷ [] → IsStrictlySortedBy value_cmp (keys_of entries)
unfolding IsStrictlySortedBy
one_sorted value weight entries is = subst (λ (es : List (Value × ℤ)). IsStrictlySortedBy value_cmp (keys_of es)) (sym is) (tt, tt)

-- ---- the walk over the new entry
module _ {H : Type 0} (type : ValueType) (begun : Ledger H) (k : Records) (first doc : ℕ) (entries : List (Value × ℤ)) (unit : begun.unit ≡ true) (index : IsIndex type k first)
    (formed : IsFormed (index_of type k first)) (owns : Owns begun k (index_part first ∷ [])) where
  add_starts : AddsSoFar type begun begun k k first first doc entries entries
  add_starts = adds_begin type begun k first doc entries entries refl unit index formed owns

  pub add_none : entries ≡ [] → WalksIndex type begun begun k k first doc (weights entries) (λ v. None) first
  add_none none = adds_end type begun k first doc entries begun k first entries add_starts none

  module _ (value : Value) (weight : ℤ) (is : entries ≡ (value, weight) ∷ []) where
    pub add_one : KeyIsRead → (new : Ledger H) (n : Records) (next : ℕ) → MayDo begun new
        → MakesIndex type begun new k n first (with_posting value doc weight (index_of type k first)) next
        → WalksIndex type begun new k n first doc (weights entries) (λ v. None) next
    add_one read new n next may makes =
        adds_end type begun k first doc entries new n next []
        (adds_put type begun k first doc entries begun k first entries [] value weight (one_sorted value weight entries is) add_starts is read index new n next may makes) refl

    pub add_width : (dense : Bool) (w : ℕ) → IsChangeWidth dense value (length (insert_entry nat_cmp (list_of value (index_of type k first)) doc weight)) w
        → IsWalkWidth dense (index_of type k first) doc (weights entries) (λ v. None) w
    add_width dense w change =
        put_width (index_of type k first) doc entries entries [] value weight (index_of type k first) (one_sorted value weight entries is) is dense add_starts.walk w change

-- ---- the walk over the old one
module _ {H : Type 0} (type : ValueType) (begun : Ledger H) (k : Records) (first doc : ℕ) (added : Value → Option ℤ) (entries : List (Value × ℤ)) (unit : begun.unit ≡ true)
    (index : IsIndex type k first) (formed : IsFormed (index_of type k first)) (owns : Owns begun k (index_part first ∷ [])) (has : HasBothAt type k first doc added entries) where
  remove_starts : RemovesSoFar type begun begun k k first first doc added entries entries
  remove_starts = removes_begin type begun k first doc added entries entries refl unit index formed owns has

  pub remove_none : entries ≡ [] → WalksIndex type begun begun k k first doc added (weights entries) first
  remove_none none = removes_end type begun k first doc added entries begun k first entries remove_starts none

  module _ (value : Value) (weight : ℤ) (is : entries ≡ (value, weight) ∷ []) (gone : added value ≡ None) where
    pub remove_there : IsThere type k first doc value
    remove_there =
        removes_there type begun k first doc added entries begun k first entries [] value weight (one_sorted value weight entries is) remove_starts is has gone

    pub remove_one : (new : Ledger H) (n : Records) (next : ℕ) → MayDo begun new
        → MakesIndex type begun new k n first (without_posting value doc (index_of type k first)) next
        → WalksIndex type begun new k n first doc added (weights entries) next
    remove_one new n next may makes =
        removes_end type begun k first doc added entries new n next []
        (removes_take type begun k first doc added entries begun k first entries [] value weight (one_sorted value weight entries is) remove_starts is gone new n next may makes) refl

    pub remove_width : (dense : Bool) (w : ℕ) → IsChangeWidth dense value (length (remove_entry (is_at (nat_cmp doc)) (list_of value (index_of type k first)))) w
        → IsWalkWidth dense (index_of type k first) doc added (weights entries) w
    remove_width dense w change =
        take_width (index_of type k first) doc entries entries [] value weight (index_of type k first) (one_sorted value weight entries is) is dense added remove_starts.walk gone w change

-- ---- what one entry makes
pub counts_one : {H : Type 0} (nodes : ℕ) (each form : Value × ℤ → ℕ → ℕ) (begun new : Ledger H) (test : Value × ℤ → Bool) (entries : List (Value × ℤ)) (value : Value) (weight : ℤ)
    → entries ≡ (value, weight) ∷ [] → test (value, weight) ≡ true → MakesWithin begun new (besides (by_width nodes (each (value, weight))) (form (value, weight)))
    → MakesWithin begun new (besides (by_width (nodes * count_by test entries) (walk_records test each entries)) (walk_records test form entries))
counts_one nodes each form begun new test entries value weight is changed made =
    counts_end nodes each form begun test entries new []
    (counts_put nodes each form begun test entries begun entries [] value weight (counts_begin nodes each form begun test entries entries refl) is changed new (may_do-same begun) made)

-- ---- the key of the item, if there is one, as a list of keys
module _ (type : ValueType) (m : Records) (root key : ℕ) where
  pub keys_single : (items : List Item) → length items ≤ 1 → FindsItemKey type m root items key → AreKeysOf type m (take (length items) (key ∷ [])) items
  keys_single [] few found = tt
  keys_single (item ∷ []) few found = (record { record_is = found.0.record_is; value_is = found.0.value_is }, tt)
  keys_single (item ∷ x ∷ items) few found = absurd (omega arith)

  pub keys_kept : (items : List Item) → length items ≤ 1 → FindsItemKey type m root items key → AllByRecursion (IsKey m root) (take (length items) (key ∷ []))
  keys_kept [] few found = tt
  keys_kept (item ∷ []) few found = (found.0.is_key, tt)
  keys_kept (item ∷ x ∷ items) few found = absurd (omega arith)

-- ---- a document of an attribute of kind Single
pub single_items : (kind : Kind) (items : List Item) → kind ≡ Single → IsLawfulItems kind items → (length items ≤ 1) × HaveWeightOne items
single_items kind items is lawful = subst (λ (k : Kind). IsLawfulItems k items) is lawful

single_had : (kind : Kind) (column : Column) (doc : ℕ) (items : List Item) → kind ≡ Single → IsLawfulColumn kind column → items ≡ items_of column doc
    → (length items ≤ 1) × HaveWeightOne items
single_had kind column doc items is lawful was =
    subst (λ (xs : List Item). (length xs ≤ 1) × HaveWeightOne xs) (sym was) (told (lookup (is_at (nat_cmp doc)) column) refl)
  where
    told : (o : Option (List Item)) → lookup (is_at (nat_cmp doc)) column ≡ o → (length (unwrap_or o []) ≤ 1) × HaveWeightOne (unwrap_or o [])
    told None none = (omega arith, tt)
    told (Some found) there = single_items kind found is (all-lookup (IsLawfulItems kind) (is_at (nat_cmp doc)) column lawful.items found there)

only_there : (o : Option (List Item)) (item : Item) → unwrap_or o [] ≡ item ∷ [] → o ≡ Some (item ∷ [])
only_there None item is = cc
only_there (Some found) item is = ap Some is

-- no item is the one that the document had
pub item_apart : (column : Column) (doc : ℕ) (old new : List Item) → old ≡ items_of column doc → lookup (is_at (nat_cmp doc)) column ≢ Some new
    → (item : Item) → old ≡ item ∷ [] → new ≡ item ∷ [] → ⊥
item_apart column doc old new was other item had has =
    other (only_there (lookup (is_at (nat_cmp doc)) column) item (sym was ∙ had) ∙ ap Some (sym has))

-- so no item has the value of the other
items_apart : (old new : List Item) → (length old ≤ 1) × HaveWeightOne old → (length new ≤ 1) × HaveWeightOne new → ((item : Item) → old ≡ item ∷ [] → new ≡ item ∷ [] → ⊥)
    → AllByRecursion (λ (item : Item). item_weights old item.value ≡ None) new
items_apart old [] before after apart = tt
items_apart old (n ∷ x ∷ new) before after apart = absurd (let few = after.0 in omega arith)
items_apart [] (n ∷ []) before after apart = (refl, tt)
items_apart (o ∷ x ∷ old) (n ∷ []) before after apart = absurd (let few = before.0 in omega arith)
items_apart (o ∷ []) (n ∷ []) before after apart = (told (is_eq (value_cmp n.value o.value)) refl, tt)
  where
    told : (t : Bool) → is_eq (value_cmp n.value o.value) ≡ t → cond t (Some o.weight) None ≡ None
    told false is = refl
    told true is =
        let same : n ≡ o = parts_same n o is ((Decides-int_eq n.weight o.weight).1 (after.1.0 ∙ sym before.1.0)) in
        absurd (apart n (ap (λ (y : Item). y ∷ []) (sym same)) refl)

-- a single's change needs no maps, if the item is another one
pub made_by : (kind : Kind) (column : Column) (doc : ℕ) (old new : List Item) (weights : Option Weights) → GivesWeights kind old new weights
    → IsLawfulColumn kind column → old ≡ items_of column doc → (kind ≡ Single → (length new ≤ 1) × HaveWeightOne new)
    → ((item : Item) → old ≡ item ∷ [] → new ≡ item ∷ [] → ⊥) → IsMadeBy old new weights
made_by kind column doc old new None is lawful was fits apart =
    let before = single_had kind column doc old is lawful was in
    let after = fits is in
    record {
      had = before.0;
      has = after.0;
      ones = after.1;
      adds = items_apart old new before after apart;
      takes = items_apart new old after before (λ item has had. apart item had has);
    }
made_by kind column doc old new (Some weights) is lawful was fits apart = is
