-- The store after one key of a phase was moved out of a buffer, in one attribute. The contents of the attribute are
-- unchanged.
use Rattle.std.specs.Prelude.{◌≡◌, ◌⊎◌, ℕ, ◌<◌, List, [], ◌∷◌, true}
use Rattle.std.specs.List.{AllByRecursion}
use Rattle.entry_ref.specs.Records.{Records, Among}
use Rattle.store_api.specs.Ledgers.{Ledger}
use Rattle.store_api.specs.Parts.{Owns, Turns, count_in, entries, uses}
use Rattle.store_api.specs.Statuses.{in_use}
use Rattle.attr_field.specs.Documents.{documents_refer}
use Rattle.attr_field.specs.Fields.{field_part, IsField}
use Rattle.image_format.specs.Documents.{column_at}
use Rattle.attr_types.specs.declared.kind.Kind.{Kind}
use Rattle.attr_types.specs.declared.kind.ValueType.{ValueType}
use Rattle.compaction_moves.specs.IndexMoves.{IsKeyIn}
use Rattle.attr_compaction.specs.PhaseKeys.{phase_keys}
use Rattle.value_index.specs.Forms.{IsPlainIndex}
use Rattle.value_index.specs.Indexes.{IsKey}

-- a unit has just begun: what is in use was in use at its beginning
pub record HasBegun {H : Type 0} (ledger : Ledger H) : Type 0 where
  pub each : (r : ℕ) → in_use (ledger.status r) ≡ true → in_use (ledger.back r) ≡ true

-- an attribute replaces another, with the same column and the same keys in all phases, and without bit vectors if the
-- other had none. It owns what that one owned,
-- except keys that lay in the buffer and now have copies: these stay in use, since documents may refer to them. A
-- record to which documents refer is a key, such an old copy, or an older one
pub record MovesField {H : Type 0} (bits buffer : ℕ) (kind : Kind) (type : ValueType) (old new : Ledger H) (m n : Records)
    (documents dictionary next_documents next_dictionary : ℕ) : Type 0 where
  pub left : List ℕ
  pub left_in : AllByRecursion (IsKeyIn bits buffer m dictionary) left
  pub field_is : IsField kind type n next_documents next_dictionary
  pub column_is : column_at kind type n next_documents ≡ column_at kind type m documents
  pub keys_are : (phase : ℕ) → phase_keys type n next_documents next_dictionary phase ≡ phase_keys type m documents dictionary phase
  pub plain : IsPlainIndex m dictionary → IsPlainIndex n next_dictionary
  pub refers : (r : ℕ) → Among r (documents_refer kind n next_documents)
      → IsKey n next_dictionary r ⊎ (Among r left
      ⊎ (Among r (documents_refer kind m documents) × (count_in r m (field_part kind documents dictionary ∷ []) < uses old r)))
  pub owns : Owns new n (field_part kind next_documents next_dictionary ∷ entries left ∷ [])
  pub turns : Turns old new m n (field_part kind documents dictionary ∷ [])
      (field_part kind next_documents next_dictionary ∷ entries left ∷ [])
