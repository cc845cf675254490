-- How a walk over the weights of a document changes an index in a store.
use Rattle.std.specs.Prelude.{ℕ, ℤ, [], ◌∷◌, Option}
use Rattle.entry_ref.specs.Records.{Records}
use Rattle.store_api.specs.Ledgers.{Ledger}
use Rattle.store_api.specs.Parts.{Owns, Turns}
use Rattle.image_format.specs.Postings.{index_of}
use Rattle.index_model.specs.Changes.{IsBetween}
use Rattle.attr_types.specs.declared.kind.ValueType.{ValueType}
use Rattle.attr_types.specs.declared.value.Value.{Value}
use Rattle.value_index.specs.Changes.{KeepsKeys}
use Rattle.value_index.specs.Flows.{FlowsIndex}
use Rattle.value_index.specs.Indexes.{index_part, IsIndex}

-- an index was made in place of another: its lists have the document with the added weights, and lack it for the
-- removed ones
pub record WalksIndex {H : Type 0} (type : ValueType) (old new : Ledger H) (m n : Records) (root doc : ℕ)
    (added removed : Value → Option ℤ) (next : ℕ) : Type 0 where
  pub index_is : IsIndex type n next
  pub between : IsBetween (index_of type m root) doc added removed (index_of type n next)
  pub keys : KeepsKeys type m n root next
  pub flows : FlowsIndex type old m n root next
  pub owns : Owns new n (index_part next ∷ [])
  pub turns : Turns old new m n (index_part root ∷ []) (index_part next ∷ [])
