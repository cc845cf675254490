-- One attribute in a store: its documents and the index of their values, each by the root of its tree.
use Rattle.std.specs.Prelude.{◌⊎◌, ℕ, ◌<◌, List, ◌++◌}
use Rattle.entry_ref.specs.Records.{Records, Among}
use Rattle.store_api.specs.Ledgers.{Ledger}
use Rattle.store_api.specs.Parts.{Part, count_in, uses}
use Rattle.attr_field.specs.Documents.{documents_own, documents_refer, IsDocuments}
use Rattle.image_format.specs.Documents.{column_at}
use Rattle.image_format.specs.Postings.{index_of}
use Rattle.index_model.specs.Index.{IsIndexOf}
use Rattle.attr_types.specs.declared.kind.Kind.{Kind}
use Rattle.attr_types.specs.declared.kind.ValueType.{ValueType}
use Rattle.value_index.specs.Indexes.{index_reach, IsIndex, IsKey}
use Rattle.attr_field.specs.ProofsForFields.{field_own-same}

-- what an attribute owns: what its documents own, and what its index owns
abbrev pub field_part : Kind → ℕ → ℕ → Part
field_part kind documents dictionary = record {
  reach = λ m. documents_own kind m documents ++ index_reach m dictionary;
  stays = λ m n same. field_own-same kind m n documents dictionary same;
}

-- documents, and the index of exactly their values
pub record IsField (kind : Kind) (type : ValueType) (m : Records) (documents dictionary : ℕ) : Type 0 where
  pub documents_are : IsDocuments kind type m documents
  pub index_is : IsIndex type m dictionary
  pub index_of_documents : IsIndexOf (column_at kind type m documents) (index_of type m dictionary)

-- each record to which documents refer is a key of their index, or an old copy of one, which is still in use and
-- which none of these parts owns
pub record RefersBeside {H : Type 0} (ledger : Ledger H) (kind : Kind) (m : Records) (documents dictionary : ℕ) (parts : List Part)
    : Type 0 where
  pub each : (r : ℕ) → Among r (documents_refer kind m documents) → IsKey m dictionary r ⊎ (count_in r m parts < uses ledger r)

-- each is a key: there are no old copies
pub record RefersToKeys (kind : Kind) (m : Records) (documents dictionary : ℕ) : Type 0 where
  pub each : (r : ℕ) → Among r (documents_refer kind m documents) → IsKey m dictionary r
