-- A compaction's turn at one key of an attribute, and what a move preserves of the buffer that is emptied.
use Rattle.std.specs.Prelude.{◌≡◌, ℕ, true, Some}
use Rattle.entry_ref.specs.References.{buffer_of}
use Rattle.entry_ref.specs.Records.{Records}
use Rattle.store_api.specs.Ledgers.{Ledger}
use Rattle.store_api.specs.Statuses.{in_use}
use Rattle.attr_compaction.specs.Places.{PlanPlace}
use Rattle.attr_compaction.specs.declared.plan.PlanKey.{PlanKey}
use Rattle.image_format.specs.Tables.{AttributeTrees}
use Rattle.doc_vector.specs.Documents.{IsDocumentMap}
use Rattle.attr_compaction.specs.PhaseKeys.{key_past, phase_keys}
use Rattle.value_index.specs.Indexes.{IsIndex}

-- the place is in this phase of the attribute with this number, and this key is the next
pub record IsTurn (at : PlanPlace) (field phase : ℕ) (m : Records) (a : AttributeTrees) (key : PlanKey) : Type 0 where
  pub field_is : at.stage.field ≡ field
  pub phase_is : at.stage.phase ≡ phase
  pub index_is : IsIndex a.type m a.dictionary
  pub map_is : IsDocumentMap m a.documents
  pub next : key_past at.key (phase_keys a.type m a.documents a.dictionary phase) ≡ Some key

-- nothing was made in the buffer, and what was in use and still is has the same words
pub record LeavesBuffer {H : Type 0} (bits buffer : ℕ) (old new : Ledger H) (m n : Records) : Type 0 where
  pub unmade : (r : ℕ) → buffer_of bits r ≡ buffer → in_use (new.status r) ≡ true → in_use (old.status r) ≡ true
  pub words : (r : ℕ) → in_use (old.status r) ≡ true → in_use (new.status r) ≡ true → n r ≡ m r
