-- The store after the items of a document, or nodes of the map, were moved out of a buffer. The column is unchanged.
use Rattle.std.specs.Prelude.{◌≡◌, ◌≢◌, ◌⊎◌, ℕ, ◌<◌, [], ◌∷◌, length}
use Rattle.entry_ref.specs.References.{buffer_of}
use Rattle.entry_ref.specs.Records.{Records, SameAt, Among}
use Rattle.tree_read.specs.Pairs.{take_out}
use Rattle.store_api.specs.Ledgers.{Ledger}
use Rattle.store_api.specs.Parts.{Owns, Turns}
use Rattle.tree_read.specs.Trees.{tree_pairs}
use Rattle.frozen_btree.specs.Changes.{tree}
use Rattle.frozen_btree.specs.Paths.{path_nodes, NoneIn}
use Rattle.doc_vector.specs.Documents.{beside_document}
use Rattle.image_format.specs.Documents.{column_at}
use Rattle.image_format.specs.Postings.{index_of}
use Rattle.image_format.specs.Values.{stored_value}
use Rattle.index_model.specs.Index.{list_of}
use Rattle.attr_types.specs.declared.kind.Kind.{Kind}
use Rattle.attr_types.specs.declared.kind.ValueType.{ValueType}
use Rattle.attr_field.specs.DocumentsChanges.{pairs_own, AreBeside}
use Rattle.attr_field.specs.Documents.{documents_part, documents_refer, items_own, items_refer, IsDocuments}
use Rattle.attr_field.specs.DocumentsFlows.{reference_at}
use Rattle.value_index.specs.Indexes.{index_part, IsIndex, IsKey}

-- neither the record that a document's items own nor one to which they refer lies in the buffer
pub record AreItemsApart (bits buffer : ℕ) (kind : Kind) (m : Records) (ref : ℕ) : Type 0 where
  pub own : NoneIn bits buffer (items_own kind ref)
  pub refer : NoneIn bits buffer (items_refer kind ref (m ref))

-- documents and an index beside them: it has each value to which they refer, and none of its keys lies in the buffer
pub record CanMoveItems {H : Type 0} (bits buffer : ℕ) (kind : Kind) (type : ValueType) (ledger : Ledger H) (m : Records)
    (documents dictionary : ℕ) : Type 0 where
  pub documents_are : IsDocuments kind type m documents
  pub index_is : IsIndex type m dictionary
  pub listed : (r : ℕ) → Among r (documents_refer kind m documents)
      → 0 < length (list_of (stored_value type m r) (index_of type m dictionary))
  pub keys : (key : ℕ) → IsKey m dictionary key → buffer_of bits key ≢ buffer
  pub beside_them : AreBeside ledger m (documents_part kind documents ∷ []) (documents_refer kind m documents)
  pub owns : Owns ledger m (documents_part kind documents ∷ index_part dictionary ∷ [])

-- a document's items no longer lie in the buffer. All other documents have the same references as before, and the
-- records that they own are unchanged. A record to which documents refer is a key, or they referred to it before
pub record MovesItems {H : Type 0} (bits buffer doc : ℕ) (kind : Kind) (type : ValueType) (old new : Ledger H) (m n : Records)
    (root dictionary next : ℕ) : Type 0 where
  pub documents_are : IsDocuments kind type n next
  pub column_is : column_at kind type n next ≡ column_at kind type m root
  pub apart : AreItemsApart bits buffer kind n (reference_at n next doc)
  pub others : take_out (beside_document doc) (tree_pairs n next) ≡ take_out (beside_document doc) (tree_pairs m root)
  pub stay : SameAt (pairs_own kind (take_out (beside_document doc) (tree_pairs m root))) m n
  pub refers : (r : ℕ) → Among r (documents_refer kind n next) → Among r (documents_refer kind m root) ⊎ IsKey m dictionary r
  pub owns : Owns new n (documents_part kind next ∷ [])
  pub turns : Turns old new m n (documents_part kind root ∷ []) (documents_part kind next ∷ [])

-- no node of the map on the way to a document lies in the buffer. The pairs of the map are unchanged, with all that
-- they own
pub record MovesDocumentNodes {H : Type 0} (bits buffer doc : ℕ) (kind : Kind) (type : ValueType) (old new : Ledger H) (m n : Records)
    (root next : ℕ) : Type 0 where
  pub documents_are : IsDocuments kind type n next
  pub column_is : column_at kind type n next ≡ column_at kind type m root
  pub apart : NoneIn bits buffer (path_nodes n (beside_document doc) next)
  pub pairs : tree_pairs n next ≡ tree_pairs m root
  pub stay : SameAt (pairs_own kind (tree_pairs m root)) m n
  pub owns : Owns new n (documents_part kind next ∷ [])
  pub turns : Turns old new m n (tree root ∷ []) (tree next ∷ [])
