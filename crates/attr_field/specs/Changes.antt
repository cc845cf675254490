-- How a change of one attribute changes a store.
use Rattle.std.specs.Prelude.{◌≡◌, ◌⊎◌, ℕ, ◌<◌, List, [], ◌∷◌}
use Rattle.entry_ref.specs.Records.{Records, Among}
use Rattle.store_api.specs.Ledgers.{Ledger}
use Rattle.store_api.specs.Parts.{Part, Turns, count_in, uses}
use Rattle.attr_field.specs.Documents.{documents_refer}
use Rattle.image_format.specs.Documents.{column_at}
use Rattle.index_model.specs.Columns.{Column}
use Rattle.attr_types.specs.declared.kind.Kind.{Kind}
use Rattle.attr_types.specs.declared.kind.ValueType.{ValueType}
use Rattle.value_index.specs.Indexes.{IsKey}
use Rattle.attr_field.specs.Fields.{field_part, IsField}
use Rattle.attr_field.specs.Flows.{FlowsField}

-- each record that the new documents refer to is a key of the new index, or the old documents referred to it and none
-- of these parts owned it: a change makes no old copies
pub record KeepsCopies {H : Type 0} (old : Ledger H) (kind : Kind) (m n : Records) (documents : ℕ) (parts : List Part)
    (next_documents next_dictionary : ℕ) : Type 0 where
  pub each : (r : ℕ) → Among r (documents_refer kind n next_documents)
      → IsKey n next_dictionary r ⊎ (Among r (documents_refer kind m documents) × (count_in r m parts < uses old r))

-- an attribute with this column was made in place of another: it owns what that one owned, and everything else in use
-- stays
pub record MakesField {H : Type 0} (kind : Kind) (type : ValueType) (old new : Ledger H) (m n : Records) (documents dictionary : ℕ)
    (column : Column) (next_documents next_dictionary : ℕ) : Type 0 where
  pub field_is : IsField kind type n next_documents next_dictionary
  pub column_is : column_at kind type n next_documents ≡ column
  pub refers : KeepsCopies old kind m n documents (field_part kind documents dictionary ∷ []) next_documents next_dictionary
  pub flows : FlowsField kind type old m n documents dictionary next_documents next_dictionary
  pub turns : Turns old new m n (field_part kind documents dictionary ∷ []) (field_part kind next_documents next_dictionary ∷ [])
