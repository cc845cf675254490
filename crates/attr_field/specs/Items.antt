-- The items of one document: references of values with their weights, as words of a record.
use Rattle.std.specs.Prelude.{◌≡◌, ℕ, zero, suc, ℤ, ◌+◌, ◌<◌, pos, Bool, true, false, nat_eq, if◌then◌else◌, List, [], ◌∷◌}
use Rattle.entry_ref.specs.Records.{Records}
use Rattle.store_api.specs.Ledgers.{Ledger}
use Rattle.store_api.specs.Parts.{Turns, entries}
use Rattle.image_format.specs.Documents.{weighted, IsItemsRecord}
use Rattle.image_format.specs.Values.{stored_value}
use Rattle.image_format.specs.Words.{class_of, unpacked}
use Rattle.attr_types.specs.declared.items.Item.{Item}
use Rattle.attr_types.specs.declared.kind.Kind.{Kind}
use Rattle.attr_types.specs.declared.kind.Kind.TheVariants.{Single, Array, WeightedSet}
use Rattle.attr_types.specs.declared.kind.ValueType.{ValueType}
use Rattle.attr_field.specs.Documents.{items_own}

-- an array or a weighted set has a record of its own
abbrev pub has_list : Kind → Bool
has_list Single = false
has_list Array = true
has_list WeightedSet = true

-- the reference of a value and its weight, from a word of that record
abbrev pub word_entry : Kind → ℕ → ℕ × ℤ
word_entry Single word = (word, pos 1)
word_entry Array word = (word, pos 1)
word_entry WeightedSet word = unpacked word

-- a weight is 1 outside weighted sets
abbrev pub IsWeightOf : Kind → ℤ → Type 0
IsWeightOf Single weight = weight ≡ pos 1
IsWeightOf Array weight = weight ≡ pos 1
IsWeightOf WeightedSet weight = Unit {0}

-- the item of a reference with a weight
abbrev pub item_of : ValueType → Records → ℕ × ℤ → Item
item_of type m e = record { value = stored_value type m e.0; weight = e.1 }

-- references of values with the weights of items
abbrev pub entries_by_key : List ℕ → List Item → List (ℕ × ℤ)
entries_by_key [] items = []
entries_by_key (key ∷ keys) [] = []
entries_by_key (key ∷ keys) (item ∷ items) = (key, item.weight) ∷ entries_by_key keys items

-- a document's reference was made for these entries, and nothing else changes
pub record MakesItems {H : Type 0} (kind : Kind) (old new : Ledger H) (m n : Records) (list : List (ℕ × ℤ)) (ref : ℕ) : Type 0 where
  pub form : IsItemsRecord kind ref (n ref)
  pub weighted_are : weighted kind ref (n ref) ≡ list
  pub turns : Turns old new m n [] (entries (items_own kind ref) ∷ [])

-- the record of a document with this many items, by width: an array or a weighted set with items has one
abbrev pub items_record : Kind → ℕ → ℕ → ℕ
items_record kind zero width = 0
items_record kind (suc more) width = if has_list kind then (if nat_eq width (class_of (1 + suc more)) then 1 else 0) else 0

-- the width of the record of a document with this many items, in an array or a weighted set
pub record IsItemsWidth (kind : Kind) (count width : ℕ) : Type 0 where
  pub list : has_list kind ≡ true
  pub some : 0 < count
  pub width_is : width ≡ class_of (1 + count)
