-- What a change of one document requires, and what it leaves.
use Rattle.std.specs.Prelude.{◌≡◌, ◌⊎◌, ℕ, ◌+◌, ◌<◌, nat_eq, if◌then◌else◌, List, [], ◌∷◌}
use Rattle.std.specs.List.{flat_map, AllZip}
use Rattle.entry_ref.specs.Records.{Records, Among, SameAt}
use Rattle.tree_read.specs.Pairs.{take_out}
use Rattle.tree_read.specs.Trees.{tree_nodes, tree_pairs}
use Rattle.tree_read.specs.declared.node_format.TheConstants.{NODE_WORDS}
use Rattle.store_api.specs.Ledgers.{Ledger}
use Rattle.store_api.specs.Parts.{Part, Owns, Turns, count_in, entries, uses}
use Rattle.frozen_btree.specs.Changes.{tree}
use Rattle.doc_vector.specs.Documents.{beside_document, IsDocumentMap}
use Rattle.image_format.specs.Documents.{column_at}
use Rattle.image_format.specs.Values.{stored_value, IsValueRecord}
use Rattle.image_format.specs.Words.{class_of}
use Rattle.index_model.specs.Columns.{Column}
use Rattle.attr_types.specs.declared.items.Item.{Item}
use Rattle.attr_types.specs.declared.kind.Kind.{Kind}
use Rattle.attr_types.specs.declared.kind.ValueType.{ValueType}
use Rattle.attr_types.specs.declared.value.Value.{Value}
use Rattle.attr_field.specs.Documents.{documents_part, documents_refer, items_own, IsDocuments}
use Rattle.attr_field.specs.DocumentsFlows.{own_at, refer_at, FlowsDocuments}
use Rattle.attr_field.specs.Items.{items_record, IsItemsWidth}
use Rattle.value_index.specs.Counts.{by_width}
use Rattle.store_api.specs.Flows.{ComesFrom}

-- these records are in use, and the parts own none of them
pub record AreBeside {H : Type 0} (ledger : Ledger H) (m : Records) (parts : List Part) (refs : List ℕ) : Type 0 where
  pub each : (r : ℕ) → Among r refs → count_in r m parts < uses ledger r

-- the record of a value
pub record IsKeyOf (type : ValueType) (m : Records) (value : Value) (key : ℕ) : Type 0 where
  pub record_is : IsValueRecord type (m key)
  pub value_is : stored_value type m key ≡ value

-- the records of the items' values, one for each item
abbrev pub AreKeysOf : ValueType → Records → List ℕ → List Item → Type 0
AreKeysOf type m keys items = AllZip (λ key item. IsKeyOf type m item.value key) keys items

-- documents were made in place of others, with this column; the values to which they refer are among the old ones and
-- these
pub record MakesDocuments {H : Type 0} (kind : Kind) (type : ValueType) (old new : Ledger H) (m n : Records) (root : ℕ) (keys : List ℕ)
    (column : Column) (next : ℕ) : Type 0 where
  pub documents_are : IsDocuments kind type n next
  pub column_is : column_at kind type n next ≡ column
  pub refers : (r : ℕ) → Among r (documents_refer kind n next) → Among r (documents_refer kind m root) ⊎ Among r keys
  pub flows : FlowsDocuments kind old m n root keys next
  pub owns : Owns new n (documents_part kind next ∷ [])
  pub turns : Turns old new m n (documents_part kind root ∷ []) (documents_part kind next ∷ [])

-- this many nodes, and the record of this many items
abbrev pub documents_most : Kind → ℕ → ℕ → ℕ → ℕ
documents_most kind count nodes = by_width nodes (items_record kind count)

-- the records that the references of pairs own
abbrev pub pairs_own : Kind → List (ℕ × ℕ) → List ℕ
pairs_own kind pairs = flat_map (λ p. items_own kind p.1) pairs

-- one document's reference was changed: the records of the others stay
pub record ChangesPair {H : Type 0} (kind : Kind) (old new : Ledger H) (m n : Records) (root : ℕ) (others pairs : List (ℕ × ℕ))
    (next : ℕ) : Type 0 where
  pub map_is : IsDocumentMap n next
  pub pairs_are : tree_pairs n next ≡ pairs
  pub stay : SameAt (pairs_own kind others) m n
  pub nodes : ComesFrom old (tree_nodes n next) (tree_nodes m root)
  pub turns : Turns old new m n (documents_part kind root ∷ []) (tree next ∷ entries (pairs_own kind others) ∷ [])

-- a document's items were set: if it owns a record, that is new, and it refers to exactly these keys. All other
-- documents have the same references as before, and the records that they own are unchanged
pub record SetsItems {H : Type 0} (kind : Kind) (old : Ledger H) (m n : Records) (root doc : ℕ) (keys : List ℕ) (next : ℕ) : Type 0 where
  pub fresh : (r : ℕ) → Among r (own_at kind n next doc) → uses old r ≡ 0
  pub refer : refer_at kind n next doc ≡ keys
  pub others : take_out (beside_document doc) (tree_pairs n next) ≡ take_out (beside_document doc) (tree_pairs m root)
  pub stay : SameAt (pairs_own kind (take_out (beside_document doc) (tree_pairs m root))) m n

-- a width for which a change of a document may be refused, by the number of its items then: that of nodes, or of the
-- record of its items
abbrev pub IsDocumentWidth : Kind → ℕ → ℕ → Type 0
IsDocumentWidth kind count width = (width ≡ NODE_WORDS) ⊎ IsItemsWidth kind count width
