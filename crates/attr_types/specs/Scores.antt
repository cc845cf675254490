-- Asks of a table, and its answers.
use Rattle.std.specs.Prelude.{ℕ, ℤ, pos, ◌+ℤ◌, ◌*ℤ◌, Bool, List, [], ◌∷◌, map, filter, length}
use Rattle.std.specs.Prelude.{if◌then◌else◌}
use Rattle.std.specs.List.{list_any}
use Rattle.std.specs.Ordering.{is_eq}
use Rattle.attr_types.specs.Query.{QueryTree, tree_of, items_in}
use Rattle.attr_types.specs.Table.{Table, hits}
use Rattle.attr_types.specs.Value.{value_cmp}
use Rattle.attr_types.specs.declared.items.Item.{Item}
use Rattle.attr_types.specs.declared.value.Value.{Value}
use Rattle.attr_types.specs.declared.ask.Ask.{Ask}
use Rattle.attr_types.specs.declared.ask.Ask.TheVariants as asks
use Rattle.attr_types.specs.declared.part.Part.{Part}
use Rattle.attr_types.specs.declared.score.Score.{Score}

-- an ask, with its query as a tree
pub data AskTree : Type 0 where
  hits_of : (query : QueryTree) → AskTree
  dot_of : (field : ℕ) → (parts : List Part) → AskTree

abbrev pub ask_tree : Ask → AskTree
ask_tree (asks.Hits query) = hits_of (tree_of query)
ask_tree (asks.Dot field parts) = dot_of field parts

-- ---- the dot product

abbrev pub has_value : Value → Item → Bool
has_value value item = is_eq (value_cmp value item.value)

-- the weight of the item with this value, or 0 if there is none
abbrev pub weight_of : Value → List Item → ℤ
weight_of value [] = pos 0
weight_of value (item ∷ items) = if has_value value item then item.weight else weight_of value items

-- some item has the value of some part
abbrev pub is_scored : List Part → List Item → Bool
is_scored parts items = list_any (λ part. list_any (has_value part.value) items) parts

-- the sum over all parts, equal ones included, of the part's weight times the weight of the item with its value
abbrev pub score_of : List Part → List Item → ℤ
score_of [] items = pos 0
score_of (part ∷ parts) items = part.weight *ℤ weight_of part.value items +ℤ score_of parts items

-- the documents that have an item with the value of some part in the attribute with this number, ascending, each with
-- its score
abbrev pub scores : ℕ → List Part → Table → List Score
scores field parts table =
    map (λ e. record { doc = e.0; score = score_of parts (items_in e.1 field) })
    (filter (λ e. is_scored parts (items_in e.1 field)) table)

-- ---- answers

-- documents, or documents with their scores
pub data Answer : Type 0 where
  documents : (docs : List ℕ) → Answer
  scored : (list : List Score) → Answer

-- the answer of a table
abbrev pub answer_on : AskTree → Table → Answer
answer_on (hits_of query) table = documents (hits query table)
answer_on (dot_of field parts) table = scored (scores field parts table)

-- the number of documents of an answer
abbrev pub documents_in : Answer → ℕ
documents_in (documents docs) = length docs
documents_in (scored list) = length list
