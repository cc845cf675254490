-- Arrays and the classes of records, as laws.
use Rattle.std.specs.Prelude.{◌≡◌, ◌≢◌, ℕ, ◌<◌, ◌≤◌, true, List, ◌∷◌, length}
use Rattle.entry_ref.specs.Records.{Among}
use Rattle.tree_read.specs.declared.node_format.TheConstants.{NODE_WORDS}
use Rattle.image_format.specs.Words.{classes, class_of, filled, stored_items, IsStoredList}
use Rattle.store_api.specs.Ledgers.{is_width}
use Rattle.array_store.specs.declared.TheConstants.{MOST_ITEMS, MOST_WORDS}

-- the record of an array: its count, its items, and zeros
pub record IsArray (ws : List ℕ) : Type 0 where
  pub few : length (stored_items ws) ≤ MOST_ITEMS
  pub words : ws ≡ filled (length (stored_items ws) ∷ stored_items ws)

-- the record made of a list has the items of that list
abbrev pub ArrayReads : Type 0
ArrayReads = (items : List ℕ) → stored_items (filled (length items ∷ items)) ≡ items

abbrev pub ArrayIsMade : Type 0
ArrayIsMade = (items : List ℕ) → length items ≤ MOST_ITEMS → IsArray (filled (length items ∷ items))

-- an array with items is a stored list, and vice versa
abbrev pub ListIsArray : Type 0
ListIsArray = (most : ℕ) (ws : List ℕ) → most ≤ MOST_ITEMS → IsStoredList most ws → IsArray ws

abbrev pub ArrayIsList : Type 0
ArrayIsList = (ws : List ℕ) → IsArray ws → 0 < length (stored_items ws) → IsStoredList (length (stored_items ws)) ws

-- a class holds its number of words, and is the least that does
abbrev pub ClassHolds : Type 0
ClassHolds = (n : ℕ) → n ≤ MOST_WORDS → n ≤ class_of n

abbrev pub ClassIsLeast : Type 0
ClassIsLeast = (n width : ℕ) → Among width classes → n ≤ width → class_of n ≤ width

-- a class is a width of a store, and not that of tree nodes
abbrev pub ClassIsWidth : Type 0
ClassIsWidth = (n : ℕ) → is_width (class_of n) ≡ true

abbrev pub ClassIsNoNode : Type 0
ClassIsNoNode = (n : ℕ) → class_of n ≢ NODE_WORDS

-- a record has as many words as its class
abbrev pub RecordHasClass : Type 0
RecordHasClass = (ws : List ℕ) → length ws ≤ MOST_WORDS → length (filled ws) ≡ class_of (length ws)
