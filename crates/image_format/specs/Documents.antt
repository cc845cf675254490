-- The items of a document, by its reference in the document tree.
use Rattle.std.specs.Prelude.{ℕ, zero, suc, ℤ, pos, List, [], ◌∷◌, map}
use Rattle.std.specs.List.{flat_map, AllByRecursion}
use Rattle.entry_ref.specs.Records.{Records}
use Rattle.tree_read.specs.Trees.{tree_pairs}
use Rattle.image_format.specs.Values.{stored_value, IsValueRecord}
use Rattle.image_format.specs.Words.{stored_items, unpacked, IsStoredList}
use Rattle.index_model.specs.Columns.{Column}
use Rattle.attr_types.specs.Change.{most_items}
use Rattle.attr_types.specs.declared.items.Item.{Item}
use Rattle.attr_types.specs.declared.kind.Kind.{Kind}
use Rattle.attr_types.specs.declared.kind.Kind.TheVariants.{Single, Array, WeightedSet}
use Rattle.attr_types.specs.declared.kind.ValueType.{ValueType}

-- the references of a document's values, each with its weight; a document without items has reference 0
abbrev pub weighted : Kind → ℕ → List ℕ → List (ℕ × ℤ)
weighted kind zero ws = []
weighted Single (suc ref) ws = (suc ref, pos 1) ∷ []
weighted Array (suc ref) ws = map (λ value. (value, pos 1)) (stored_items ws)
weighted WeightedSet (suc ref) ws = map unpacked (stored_items ws)

-- an array or a weighted set is a stored list
abbrev pub IsItemsRecord : Kind → ℕ → List ℕ → Type 0
IsItemsRecord kind zero ws = Unit {0}
IsItemsRecord Single (suc ref) ws = Unit {0}
IsItemsRecord Array (suc ref) ws = IsStoredList most_items ws
IsItemsRecord WeightedSet (suc ref) ws = IsStoredList most_items ws

-- what a document's reference reaches
abbrev pub items_reach : Kind → ℕ → List ℕ → List ℕ
items_reach kind zero ws = []
items_reach Single (suc ref) ws = suc ref ∷ []
items_reach Array (suc ref) ws = suc ref ∷ map (λ e. e.0) (weighted Array (suc ref) ws)
items_reach WeightedSet (suc ref) ws = suc ref ∷ map (λ e. e.0) (weighted WeightedSet (suc ref) ws)

-- the items of a document
abbrev pub items_at : Kind → ValueType → Records → ℕ → List Item
items_at kind type m ref = map (λ e. record { value = stored_value type m e.0; weight = e.1 }) (weighted kind ref (m ref))

-- the records of its items are well formed
abbrev pub AreItemRecords : Kind → ValueType → Records → ℕ → Type 0
AreItemRecords kind type m ref =
    IsItemsRecord kind ref (m ref) × AllByRecursion (λ e. IsValueRecord type (m e.0)) (weighted kind ref (m ref))

-- the column of a document tree: each document with its items
abbrev pub column_at : Kind → ValueType → Records → ℕ → Column
column_at kind type m root = map (λ p. (p.0, items_at kind type m p.1)) (tree_pairs m root)

-- what the tree reaches besides its nodes
abbrev pub documents_reach : Kind → Records → ℕ → List ℕ
documents_reach kind m root = flat_map (λ p. items_reach kind p.1 (m p.1)) (tree_pairs m root)
