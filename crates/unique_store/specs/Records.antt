-- The record of a value, as a law.
use Rattle.std.specs.Prelude.{◌≢◌, ℕ, ◌<◌, List, length}
use Rattle.tree_read.specs.declared.node_format.TheConstants.{NODE_WORDS}
use Rattle.image_format.specs.Values.{IsValueRecord}
use Rattle.attr_types.specs.declared.kind.ValueType.{ValueType}

-- a value's record has at least two words, and is not a tree node
abbrev pub ValueIsThere : Type 0
ValueIsThere = (type : ValueType) (ws : List ℕ) → IsValueRecord type ws → 1 < length ws

abbrev pub ValueIsNoNode : Type 0
ValueIsNoNode = (type : ValueType) (ws : List ℕ) → IsValueRecord type ws → length ws ≢ NODE_WORDS
