-- The steps of a change: documents and an index that differ until the change is complete.
use Rattle.std.specs.Prelude.{◌≡◌, ℕ, ◌<◌, ◌≤◌, List, [], ◌∷◌, length, Option, None, Some}
use Rattle.std.specs.List.{AllByRecursion}
use Rattle.entry_ref.specs.Records.{Records}
use Rattle.store_api.specs.Ledgers.{Ledger}
use Rattle.store_api.specs.Parts.{Owns, Turns}
use Rattle.attr_field.specs.Documents.{documents_part, IsDocuments}
use Rattle.image_format.specs.Documents.{column_at}
use Rattle.image_format.specs.Postings.{index_of}
use Rattle.image_format.specs.Values.{stored_value, IsValueRecord}
use Rattle.index_model.specs.Changes.{first_weights}
use Rattle.index_model.specs.Columns.{Column}
use Rattle.index_model.specs.Index.{list_of}
use Rattle.attr_types.specs.Lawful.{HaveWeightOne}
use Rattle.attr_types.specs.declared.items.Item.{Item}
use Rattle.attr_types.specs.declared.kind.Kind.{Kind}
use Rattle.attr_types.specs.declared.kind.Kind.TheVariants.{Single}
use Rattle.attr_types.specs.declared.kind.ValueType.{ValueType}
use Rattle.attr_types.specs.declared.value.Value.{Value}
use Rattle.value_index.specs.Indexes.{index_part, IsIndex, IsKey}
use Rattle.attr_field.specs.Changes.{KeepsCopies}
use Rattle.attr_field.specs.Counts.{item_weights}
use Rattle.attr_field.specs.Fields.{RefersBeside}
use Rattle.attr_field.specs.Flows.{FlowsField}
use Rattle.attr_field.specs.declared.weights.Weights.{Weights}

-- documents and an index: the documents refer to its keys or to old copies of them, whatever its lists are
pub record StandsField {H : Type 0} (kind : Kind) (type : ValueType) (ledger : Ledger H) (m : Records) (documents dictionary : ℕ)
    : Type 0 where
  pub documents_are : IsDocuments kind type m documents
  pub index_is : IsIndex type m dictionary
  pub refers : RefersBeside ledger kind m documents dictionary (documents_part kind documents ∷ index_part dictionary ∷ [])
  pub owns : Owns ledger m (documents_part kind documents ∷ index_part dictionary ∷ [])

-- others were made in their place, with this column
pub record StepsField {H : Type 0} (kind : Kind) (type : ValueType) (old new : Ledger H) (m n : Records) (documents dictionary : ℕ)
    (column : Column) (next_documents next_dictionary : ℕ) : Type 0 where
  pub stands : StandsField kind type new n next_documents next_dictionary
  pub column_is : column_at kind type n next_documents ≡ column
  pub refers : KeepsCopies old kind m n documents (documents_part kind documents ∷ index_part dictionary ∷ [])
      next_documents next_dictionary
  pub flows : FlowsField kind type old m n documents dictionary next_documents next_dictionary
  pub turns : Turns old new m n (documents_part kind documents ∷ index_part dictionary ∷ [])
      (documents_part kind next_documents ∷ index_part next_dictionary ∷ [])

-- the key of a value
pub record FindsKey (type : ValueType) (m : Records) (root : ℕ) (value : Value) (ref : ℕ) : Type 0 where
  pub is_key : IsKey m root ref
  pub record_is : IsValueRecord type (m ref)
  pub value_is : stored_value type m ref ≡ value

-- the key of the value of each of these items, of which there is at most one
abbrev pub FindsItemKey : ValueType → Records → ℕ → List Item → ℕ → Type 0
FindsItemKey type m root items key = AllByRecursion (λ item. FindsKey type m root item.value key) items

-- the weights of the values of items before and after a change
pub record AreWeights (weights : Weights) (old new : List Item) : Type 0 where
  pub before_are : weights.before.entries ≡ first_weights [] old
  pub after_are : weights.after.entries ≡ first_weights [] new

-- at most one item before and at most one after, and no value in both
pub record IsSingleChange (old new : List Item) : Type 0 where
  pub had : length old ≤ 1
  pub has : length new ≤ 1
  pub ones : HaveWeightOne new
  pub adds : AllByRecursion (λ item. item_weights old item.value ≡ None) new
  pub takes : AllByRecursion (λ item. item_weights new item.value ≡ None) old

-- a change with maps of weights, or without
abbrev pub IsMadeBy : List Item → List Item → Option Weights → Type 0
IsMadeBy old new None = IsSingleChange old new
IsMadeBy old new (Some weights) = AreWeights weights old new

-- these maps, which a single does without
abbrev pub GivesWeights : Kind → List Item → List Item → Option Weights → Type 0
GivesWeights kind old new None = kind ≡ Single
GivesWeights kind old new (Some weights) = AreWeights weights old new

-- the key of the one value is known, or each value is in the index
abbrev pub FindsBy : ValueType → Records → ℕ → List Item → ℕ → Option Weights → Type 0
FindsBy type m root items key None = (length items ≤ 1) × FindsItemKey type m root items key
FindsBy type m root items key (Some weights) = AllByRecursion (λ item. 0 < length (list_of item.value (index_of type m root))) items
