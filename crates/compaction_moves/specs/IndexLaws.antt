-- What moves in an index clear, as laws.
use Rattle.std.specs.Prelude.{◌≡◌, ℕ, [], ◌∷◌}
use Rattle.entry_ref.specs.Records.{Records, SameAt}
use Rattle.store_api.specs.Ledgers.{Ledger}
use Rattle.store_api.specs.Parts.{Owns}
use Rattle.compaction_moves.specs.Cleared.{IsClearedField}
use Rattle.attr_compaction.specs.Places.{PlanPlace}
use Rattle.attr_compaction.specs.declared.plan.PlanKey.TheVariants as plan
use Rattle.attr_compaction.specs.declared.plan.TheConstants.{KEYS, LISTS, NODES}
use Rattle.attr_field.specs.Documents.{documents_own}
use Rattle.image_format.specs.Documents.{column_at}
use Rattle.image_format.specs.Postings.{index_of}
use Rattle.image_format.specs.Tables.{AttributeTrees}
use Rattle.attr_types.specs.Value.{type_of}
use Rattle.attr_types.specs.declared.kind.Kind.{Kind}
use Rattle.attr_types.specs.declared.kind.ValueType.{ValueType}
use Rattle.attr_types.specs.declared.value.Value.{Value}
use Rattle.compaction_moves.specs.IndexMoves.{lists_docs, MovesKey, MovesList, MovesNodes}
use Rattle.attr_compaction.specs.PhaseKeys.{phase_keys}
use Rattle.value_index.specs.Indexes.{index_part}
use Rattle.compaction_moves.specs.IndexTurns.{IsTurn, LeavesBuffer}
use Rattle.compaction_moves.specs.Visits.{place_at_key}

-- after the move of a value's key, what was cleared still is, and so is the key
abbrev pub KeyMoveClears : Type 0 → Type 0
KeyMoveClears H = (bits victim field next : ℕ) (at : PlanPlace) (value : Value) (old new : Ledger H) (m n : Records) (a : AttributeTrees)
    → type_of value ≡ a.type → IsTurn at field KEYS m a (plan.Value value) → MovesKey bits victim value old new m n a.dictionary next
    → IsClearedField bits victim at field m a
    → IsClearedField bits victim (place_at_key at (plan.Value value)) field n (record a { dictionary = next })

-- after the move of a value's list as far as the way to a document, what was cleared still is, and so is the list
-- that far
abbrev pub ListMoveClears : Type 0 → Type 0
ListMoveClears H = (bits victim field doc next : ℕ) (at : PlanPlace) (value : Value) (old new : Ledger H) (m n : Records)
    (a : AttributeTrees)
    → type_of value ≡ a.type → IsTurn at field LISTS m a (plan.Pair value doc)
    → MovesList bits victim doc value old new m n a.dictionary next
    → LeavesBuffer bits victim old new m n → Owns old m (index_part a.dictionary ∷ []) → SameAt (documents_own a.kind m a.documents) m n
    → IsClearedField bits victim at field m a
    → IsClearedField bits victim (place_at_key at (plan.Pair value doc)) field n (record a { dictionary = next })

-- after the move of the nodes on the way to a value, what was cleared still is, and so are these nodes
abbrev pub NodeMoveClears : Type 0 → Type 0
NodeMoveClears H = (bits victim field next : ℕ) (at : PlanPlace) (value : Value) (old new : Ledger H) (m n : Records) (a : AttributeTrees)
    → type_of value ≡ a.type → IsTurn at field NODES m a (plan.Value value) → MovesNodes bits victim value old new m n a.dictionary next
    → LeavesBuffer bits victim old new m n → Owns old m (index_part a.dictionary ∷ []) → SameAt (documents_own a.kind m a.documents) m n
    → IsClearedField bits victim at field m a
    → IsClearedField bits victim (place_at_key at (plan.Value value)) field n (record a { dictionary = next })

-- the keys of each phase are the same if the contents of the index, the form of each list, and the column of the documents
-- are the same
abbrev pub KeysAreSame : Type 0
KeysAreSame = (kind : Kind) (type : ValueType) (m n : Records) (documents dictionary next_documents next_dictionary phase : ℕ)
    → index_of type n next_dictionary ≡ index_of type m dictionary → lists_docs n next_dictionary ≡ lists_docs m dictionary
    → column_at kind type n next_documents ≡ column_at kind type m documents
    → phase_keys type n next_documents next_dictionary phase ≡ phase_keys type m documents dictionary phase
