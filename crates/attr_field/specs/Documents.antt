-- The documents of an attribute with their items: a map by document, and a record for each document of an array or a
-- weighted set. These are owned. The records of the values belong to another part; documents refer to them.
use Rattle.std.specs.Prelude.{ℕ, zero, suc, List, [], ◌∷◌, ◌++◌, map}
use Rattle.std.specs.List.{flat_map, AllByRecursion}
use Rattle.entry_ref.specs.Records.{Records}
use Rattle.tree_read.specs.Trees.{tree_nodes, tree_pairs}
use Rattle.store_api.specs.Parts.{Part}
use Rattle.doc_vector.specs.Documents.{IsDocumentMap}
use Rattle.image_format.specs.Documents.{weighted, items_at, AreItemRecords}
use Rattle.attr_types.specs.Lawful.{IsLawfulItems}
use Rattle.attr_types.specs.declared.kind.Kind.{Kind}
use Rattle.attr_types.specs.declared.kind.Kind.TheVariants.{Single, Array, WeightedSet}
use Rattle.attr_types.specs.declared.kind.ValueType.{ValueType}
use Rattle.attr_field.specs.ProofsForDocuments.{owned-same}

-- the record that a document's items own
abbrev pub items_own : Kind → ℕ → List ℕ
items_own kind zero = []
items_own Single (suc ref) = []
items_own Array (suc ref) = suc ref ∷ []
items_own WeightedSet (suc ref) = suc ref ∷ []

-- the records of their values
abbrev pub items_refer : Kind → ℕ → List ℕ → List ℕ
items_refer kind ref ws = map (λ e. e.0) (weighted kind ref ws)

abbrev pub documents_own : Kind → Records → ℕ → List ℕ
documents_own kind m root = tree_nodes m root ++ flat_map (λ p. items_own kind p.1) (tree_pairs m root)

abbrev pub documents_refer : Kind → Records → ℕ → List ℕ
documents_refer kind m root = flat_map (λ p. items_refer kind p.1 (m p.1)) (tree_pairs m root)

-- the documents, by the records that they own
abbrev pub documents_part : Kind → ℕ → Part
documents_part kind root = record { reach = λ m. documents_own kind m root; stays = λ m n same. owned-same (items_own kind) m n root same }

-- a document's reference reads as lawful items, by well-formed records
pub record AreItemsAt (kind : Kind) (type : ValueType) (m : Records) (ref : ℕ) : Type 0 where
  pub records : AreItemRecords kind type m ref
  pub lawful : IsLawfulItems kind (items_at kind type m ref)

pub record IsDocuments (kind : Kind) (type : ValueType) (m : Records) (root : ℕ) : Type 0 where
  pub map_is : IsDocumentMap m root
  pub items : AllByRecursion (λ p. AreItemsAt kind type m p.1) (tree_pairs m root)
