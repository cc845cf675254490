-- The items of a document.
use Rattle.std.proofs.Common.{◌≡◌, ℕ, List, map, Option, Some, None, Result, Ok, Err, sym, ap, subst, ◌∙◌}
use Rattle.std.specs.Prelude.{ℤ, Vec, IfOk}
use Rattle.std.specs.List.{AllByRecursion}
use Rattle.std.specs.declared.alloc.Global.{Global}
use Rattle.std.specs.declared.alloc.AllocError.{AllocError}
use Rattle.entry_ref.specs.Records.{Records}
use Rattle.image_format.specs.Documents.{weighted, IsItemsRecord, items_at, AreItemRecords}
use Rattle.image_format.specs.Values.{value_of, stored_value, IsValueRecord}
use Rattle.attr_types.specs.declared.items.Item.{Item}
use Rattle.attr_types.specs.declared.kind.Kind.{Kind}
use Rattle.attr_types.specs.declared.kind.ValueType.{ValueType}
use Rattle.attr_types.specs.declared.value.Value.{Value}
use Rattle.check_images.specs.Told.{Tells}

module _ (kind : Kind) (type : ValueType) (m : Records) (ref : ℕ) where
  abbrev pub item_of : ℕ × ℤ → Item
  item_of e = record { value = stored_value type m e.0; weight = e.1 }

  abbrev pub IsGood : ℕ × ℤ → Type 0
  IsGood e = IsValueRecord type (m e.0)

  pub items_told : (list : Vec (ℕ × ℤ) Global) (words : List ℕ) (slice : List (ℕ × ℤ)) (told : Option (Vec (ℕ × ℤ) Global)) (result : Result (Option (List Item)) AllocError)
      → words ≡ m ref → slice ≡ list.items → told ≡ Some list
      → Tells (IsItemsRecord kind ref words) (λ (l : Vec (ℕ × ℤ) Global). l.items ≡ weighted kind ref words) told
      → IfOk result (Tells (AllByRecursion IsGood slice) (λ items. items ≡ map item_of slice))
      → IfOk result (Tells (AreItemRecords kind type m ref) (λ items. items ≡ items_at kind type m ref))
  items_told list words slice told result at of is first second = by result second
    where
      record_told : IsItemsRecord kind ref words × (list.items ≡ weighted kind ref words)
      record_told = subst (Tells (IsItemsRecord kind ref words) (λ (l : Vec (ℕ × ℤ) Global). l.items ≡ weighted kind ref words)) is first

      whole : slice ≡ weighted kind ref (m ref)
      whole = of ∙ record_told.1 ∙ ap (weighted kind ref) at

      by : (r : Result (Option (List Item)) AllocError) → IfOk r (Tells (AllByRecursion IsGood slice) (λ items. items ≡ map item_of slice))
          → IfOk r (Tells (AreItemRecords kind type m ref) (λ items. items ≡ items_at kind type m ref))
      by (Ok (Some items)) t = ((subst (IsItemsRecord kind ref) at record_told.0, subst (AllByRecursion IsGood) whole t.0), t.1 ∙ ap (map item_of) whole)
      by (Ok None) t = λ good. t (subst (AllByRecursion IsGood) (sym whole) good.1)
      by (Err e) t = tt

pub value_told : (type : ValueType) (m : Records) (ref : ℕ) (words : List ℕ) (told : Option Value) (v : Value) → words ≡ m ref → told ≡ Some v
    → Tells (IsValueRecord type words) (λ (x : Value). x ≡ value_of type words) told → v ≡ stored_value type m ref
value_told type m ref words told v at is tells =
    let both : IsValueRecord type words × (v ≡ value_of type words) = subst (Tells (IsValueRecord type words) (λ (x : Value). x ≡ value_of type words)) is tells in
    both.1 ∙ ap (value_of type) at
