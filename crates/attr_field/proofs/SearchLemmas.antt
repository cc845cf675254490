-- The keys of items, one after another.
use Rattle.std.proofs.Common.{◌≡◌, ℕ, suc, List, [], ◌∷◌, ◌++◌, length, take, Some, subst, arith}
use Rattle.std.specs.Prelude.{slice_get}
use Rattle.std.specs.List.{AllByRecursion}
use Rattle.std.proofs.lemmas.List.{take_all}
use Rattle.list_lemmas.proofs.Each.{AllByRecursion-append}
use Rattle.list_lemmas.proofs.Places.{take-read}
use Rattle.list_lemmas.proofs.Pairs.{AllZip-push}
use Rattle.entry_ref.specs.Records.{Records}
use Rattle.attr_field.specs.DocumentsChanges.{AreKeysOf, IsKeyOf}
use Rattle.attr_types.specs.declared.items.Item.{Item}
use Rattle.attr_types.specs.declared.kind.ValueType.{ValueType}
use Rattle.value_index.specs.Indexes.{key_at, IsIndex, IsKey}
use Rattle.value_index.specs.Laws.{KeyIsRead, FoundIsKey}
use Rattle.attr_types.specs.Value.{type_of}
use Rattle.attr_types.specs.declared.value.Value.{Value}
use Rattle.attr_field.specs.Steps.{FindsKey}

-- the keys of the items up to a place
pub record KeysSoFar (type : ValueType) (m : Records) (root : ℕ) (keys : List ℕ) (items : List Item) (i : ℕ) : Type 0 where
  pub are : AreKeysOf type m keys (take i items)
  pub kept : AllByRecursion (IsKey m root) keys

module _ (type : ValueType) (m : Records) (root : ℕ) (items : List Item) where
  pub keys_begin : KeysSoFar type m root [] items 0
  keys_begin = record { are = tt; kept = tt }

  pub keys_more : (keys : List ℕ) (i ref : ℕ) (item : Item) → KeysSoFar type m root keys items i → slice_get items i ≡ Some item → FindsKey type m root item.value ref
      → KeysSoFar type m root (keys ++ ref ∷ []) items (suc i)
  keys_more keys i ref item p at finds = record {
    are = subst (AreKeysOf type m (keys ++ ref ∷ [])) (take-read items i item at)
        (AllZip-push (λ (key : ℕ) (x : Item). IsKeyOf type m x.value key) keys (take i items) ref item p.are (record { record_is = finds.record_is; value_is = finds.value_is }));
    kept = AllByRecursion-append (IsKey m root) keys (ref ∷ []) p.kept (finds.is_key, tt);
  }

  pub keys_end : (keys : List ℕ) → KeysSoFar type m root keys items (length items) → AreKeysOf type m keys items
  keys_end keys p = subst (AreKeysOf type m keys) (take_all (length items) items (omega arith)) p.are

pub finds_key : FoundIsKey → KeyIsRead → (type : ValueType) (m : Records) (root ref : ℕ) (value : Value) → IsIndex type m root → type_of value ≡ type
    → key_at value m root ≡ Some ref → FindsKey type m root value ref
finds_key found read type m root ref value index typed at =
    let is = found type m root ref value index typed at in
    record { is_key = is.0; record_is = (read type m root ref index is.0).record_is; value_is = is.1 }
