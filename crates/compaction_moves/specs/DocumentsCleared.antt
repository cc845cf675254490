-- What the two moves of documents clear of the victim, as laws. The index beside the documents does not change.
use Rattle.std.specs.Prelude.{◌≡◌, ℕ, true, [], ◌∷◌, Some}
use Rattle.entry_ref.specs.References.{buffer_of}
use Rattle.entry_ref.specs.Records.{Records, SameAt}
use Rattle.store_api.specs.Ledgers.{Ledger}
use Rattle.store_api.specs.Parts.{Owns}
use Rattle.store_api.specs.Statuses.{in_use}
use Rattle.image_format.specs.Tables.{AttributeTrees}
use Rattle.attr_field.specs.DocumentsChanges.{AreBeside}
use Rattle.attr_field.specs.Documents.{documents_part, documents_refer, IsDocuments}
use Rattle.value_index.specs.Indexes.{index_reach, IsIndex}
use Rattle.attr_compaction.specs.Places.{PlanPlace}
use Rattle.attr_compaction.specs.declared.plan.PlanKey.{PlanKey}
use Rattle.attr_compaction.specs.declared.plan.PlanKey.TheVariants.{Doc}
use Rattle.attr_compaction.specs.declared.plan.TheConstants.{DOCUMENTS, NODES}
use Rattle.attr_compaction.specs.PhaseKeys.{key_past, phase_keys}
use Rattle.compaction_moves.specs.DocumentMoves.{CanMoveItems, MovesDocumentNodes, MovesItems}
use Rattle.compaction_moves.specs.Cleared.{IsClearedField}
use Rattle.compaction_moves.specs.Visits.{place_at_key}
use Rattle.attr_field.specs.Fields.{field_part, IsField, RefersBeside}

-- the attribute after its tree of documents is replaced
abbrev pub with_documents : AttributeTrees → ℕ → AttributeTrees
with_documents a next = record { kind = a.kind; type = a.type; documents = next; dictionary = a.dictionary }

-- the key is the next one of the attribute's phase
abbrev pub IsNext : PlanPlace → Records → AttributeTrees → PlanKey → Type 0
IsNext at m a key = key_past at.key (phase_keys a.type m a.documents a.dictionary at.stage.phase) ≡ Some key

-- documents and an index, which need not belong together
pub record AreTrees (m : Records) (a : AttributeTrees) : Type 0 where
  pub documents_are : IsDocuments a.kind a.type m a.documents
  pub index_is : IsIndex a.type m a.dictionary

-- nothing came into use in the buffer
abbrev pub MakesNoneIn : {H : Type 0} → ℕ → ℕ → Ledger H → Ledger H → Type 0
MakesNoneIn bits buffer old new = (r : ℕ) → buffer_of bits r ≡ buffer → in_use (new.status r) ≡ true → in_use (old.status r) ≡ true

-- what is in use before and after has the same words
abbrev pub KeepsRecords : {H : Type 0} → Ledger H → Ledger H → Records → Records → Type 0
KeepsRecords old new m n = (r : ℕ) → in_use (old.status r) ≡ true → in_use (new.status r) ≡ true → n r ≡ m r

-- after the move of a document's items, everything up to that document is cleared
abbrev pub ItemsAreCleared : Type 0 → Type 0
ItemsAreCleared H = (bits victim field doc next : ℕ) (at : PlanPlace) (a : AttributeTrees) (old new : Ledger H) (m n : Records)
    → at.stage.field ≡ field → at.stage.phase ≡ DOCUMENTS → IsNext at m a (Doc doc) → AreTrees m a → SameAt (index_reach m a.dictionary) m n
    → MovesItems bits victim doc a.kind a.type old new m n a.documents a.dictionary next
    → IsClearedField bits victim at field m a → IsClearedField bits victim (place_at_key at (Doc doc)) field n (with_documents a next)

-- after the move of the nodes on the way to a document, everything up to that document is cleared
abbrev pub MapIsCleared : Type 0 → Type 0
MapIsCleared H = (bits victim field doc next : ℕ) (at : PlanPlace) (a : AttributeTrees) (old new : Ledger H) (m n : Records)
    → at.stage.field ≡ field → at.stage.phase ≡ NODES → IsNext at m a (Doc doc) → AreTrees m a → SameAt (index_reach m a.dictionary) m n
    → Owns old m (documents_part a.kind a.documents ∷ []) → MakesNoneIn bits victim old new → KeepsRecords old new m n
    → MovesDocumentNodes bits victim doc a.kind a.type old new m n a.documents next
    → IsClearedField bits victim at field m a → IsClearedField bits victim (place_at_key at (Doc doc)) field n (with_documents a next)

-- in the phase of documents, the knowledge of a plan meets the conditions of a move of items
abbrev pub ItemsCanMove : Type 0 → Type 0
ItemsCanMove H = (bits victim field : ℕ) (at : PlanPlace) (a : AttributeTrees) (ledger : Ledger H) (m : Records)
    → at.stage.field ≡ field → at.stage.phase ≡ DOCUMENTS → IsField a.kind a.type m a.documents a.dictionary
    → Owns ledger m (field_part a.kind a.documents a.dictionary ∷ [])
    → RefersBeside ledger a.kind m a.documents a.dictionary (field_part a.kind a.documents a.dictionary ∷ [])
    → IsClearedField bits victim at field m a → CanMoveItems bits victim a.kind a.type ledger m a.documents a.dictionary

-- the knowledge of a plan meets the conditions of a move of their nodes
abbrev pub NodesCanMove : Type 0 → Type 0
NodesCanMove H = (a : AttributeTrees) (ledger : Ledger H) (m : Records) → IsField a.kind a.type m a.documents a.dictionary
    → Owns ledger m (field_part a.kind a.documents a.dictionary ∷ [])
    → RefersBeside ledger a.kind m a.documents a.dictionary (field_part a.kind a.documents a.dictionary ∷ [])
    → Owns ledger m (documents_part a.kind a.documents ∷ [])
    × AreBeside ledger m (documents_part a.kind a.documents ∷ []) (documents_refer a.kind m a.documents)
