-- How a change of a list changes a store.
use Rattle.std.specs.Prelude.{◌≡◌, ◌⊎◌, ◌||◌, ℕ, ℤ, ◌+◌, ◌*◌, ◌<◌, Bool, true, false, nat_eq, nat_le, if◌then◌else◌, List, [], ◌∷◌, length}
use Rattle.std.specs.Map.{keys_of}
use Rattle.entry_ref.specs.Records.{Records}
use Rattle.store_api.specs.Ledgers.{Ledger}
use Rattle.store_api.specs.Parts.{Part, Owns, Turns}
use Rattle.store_api.specs.Statuses.{in_use}
use Rattle.tree_read.specs.declared.node_format.TheConstants.{NODE_WORDS}
use Rattle.frozen_btree.specs.Builds.{nodes_of}
use Rattle.image_format.specs.Postings.{is_dense}
use Rattle.image_format.specs.declared.TheConstants.{MOST_SHORT}
use Rattle.image_format.specs.Words.{class_of}
use Rattle.bit_vector.specs.Changes.{vector_most, IsVectorWidth}
use Rattle.bit_vector.specs.Vectors.{count_blocks}
use Rattle.posting_store.specs.Keeps.{FlowsList}
use Rattle.posting_store.specs.Lists.{list_at, list_levels, list_reach, is_vector, IsList}
use Rattle.posting_store.specs.ProofsForLists.{list_reach-same}

-- a list as a part: it owns its records
abbrev pub list_part : ℕ → Part
list_part word = record { reach = λ m. list_reach m word; stays = λ m n same. list_reach-same m n word same }

-- a list of these documents was made, in place of another; whether it is a bit vector. What was in use when the unit began
-- is the same block of it
pub record MakesList {H : Type 0} (old new : Ledger H) (m n : Records) (word : ℕ) (docs : List (ℕ × ℤ)) (dense : Bool) (next : ℕ)
    : Type 0 where
  pub list_is : IsList n next
  pub form : is_vector next ≡ dense
  pub docs_are : list_at n next ≡ docs
  pub flows : FlowsList (λ r. in_use (old.back r) ≡ true) m n word next
  pub owns : Owns new n (list_part next ∷ [])
  pub turns : Turns old new m n (list_part word ∷ []) (list_part next ∷ [])

-- the rule for a list that was changed: with `documents` documents in all, it is a bit vector exactly if it is dense. As
-- a list, it is a record if it is short, and otherwise a tree
abbrev pub MakesByRule : {H : Type 0} → Bool → ℕ → Ledger H → Ledger H → Records → Records → ℕ → List (ℕ × ℤ) → ℕ → Type 0
MakesByRule dense documents old new m n word docs next = MakesList old new m n word docs (is_dense dense (length docs) documents) next

-- ---- bounds on the records of each width
-- for a list that had this many levels of nodes, and then has this many documents, if neither is a bit vector: one
-- record if it is now short, otherwise only nodes
abbrev pub list_most : ℕ → ℕ → ℕ → ℕ
list_most levels count width =
    if nat_le count MOST_SHORT then (if nat_eq width (class_of (1 + count)) then 1 else 0)
    else if nat_eq width NODE_WORDS then 2 * levels + 1 else 0

-- for any list that then has these documents: whether it was a bit vector, and whether it is one now. A bit vector gets
-- one block and nodes; a change of form makes besides at most one record for each block, and one tree
abbrev pub list_change_most : Bool → Bool → ℕ → List (ℕ × ℤ) → ℕ → ℕ
list_change_most false false levels docs width = list_most levels (length docs) width
list_change_most true true levels docs width = vector_most 1 (2 * levels + 1) width
list_change_most false true levels docs width =
    vector_most (count_blocks (keys_of docs)) (2 * levels + 1 + nodes_of (count_blocks (keys_of docs))) width
list_change_most true false levels docs width =
    if nat_le (length docs) MOST_SHORT then list_most levels (length docs) width
    else vector_most 1 (2 * levels + 1 + nodes_of (length docs)) width

-- for a list that then has these documents and keeps its form
abbrev pub same_form_most : Records → ℕ → List (ℕ × ℤ) → ℕ → ℕ
same_form_most m word docs = list_change_most (is_vector word) (is_vector word) (list_levels m word) docs

-- for a list that then has these documents and the form of the rule
abbrev pub rule_most : Records → ℕ → Bool → ℕ → List (ℕ × ℤ) → ℕ → ℕ
rule_most m word dense documents docs = list_change_most (is_vector word) (is_dense dense (length docs) documents) (list_levels m word) docs

-- for a list with these documents whose form alone changes
abbrev pub form_most : Bool → Bool → List (ℕ × ℤ) → ℕ → ℕ
form_most false true docs width = vector_most (count_blocks (keys_of docs)) (nodes_of (count_blocks (keys_of docs))) width
form_most true false docs width = vector_most 0 (nodes_of (length docs)) width
form_most false false docs width = 0
form_most true true docs width = 0

-- ---- widths
-- the width of the records of a list of this many documents that is no bit vector: that of its one record if it is
-- short, otherwise that of nodes
abbrev pub list_width : ℕ → ℕ
list_width count = if nat_le count MOST_SHORT then class_of (1 + count) else NODE_WORDS

-- a width of a non-empty list of this many documents that is no bit vector
pub record IsListWidth (count width : ℕ) : Type 0 where
  pub some : 0 < count
  pub width_is : width ≡ list_width count

-- a width of a bit vector, which has more documents than a short list
pub record IsLongWidth (count width : ℕ) : Type 0 where
  pub many : MOST_SHORT < count
  pub width_is : IsVectorWidth width

-- a width for which the change of a list's form may be refused: it was a bit vector or not, and is to be one or not
abbrev pub IsFormWidth : Bool → Bool → ℕ → Type 0
IsFormWidth false true width = IsVectorWidth width
IsFormWidth true false width = IsVectorWidth width
IsFormWidth false false width = ⊥
IsFormWidth true true width = ⊥

-- a width for which the change of a list may be refused, by the documents that it has then; whether it was or is a bit
-- vector
abbrev pub IsListChangeWidth : Bool → ℕ → ℕ → Type 0
IsListChangeWidth false count width = IsListWidth count width
IsListChangeWidth true count width = IsListWidth count width ⊎ IsLongWidth count width

-- the same of a list that keeps its form, and of one that gets the form of the rule
abbrev pub IsSameFormWidth : ℕ → List (ℕ × ℤ) → ℕ → Type 0
IsSameFormWidth word docs = IsListChangeWidth (is_vector word) (length docs)

abbrev pub IsRuleWidth : ℕ → Bool → ℕ → List (ℕ × ℤ) → ℕ → Type 0
IsRuleWidth word dense documents docs = IsListChangeWidth (is_vector word || is_dense dense (length docs) documents) (length docs)
