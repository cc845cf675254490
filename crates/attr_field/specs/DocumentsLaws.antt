-- The documents of an attribute, as laws.
use Rattle.std.specs.Prelude.{◌≡◌, ◌↔◌, ℕ, [], ◌++◌, map}
use Rattle.std.specs.List.{AllByRecursion}
use Rattle.std.specs.Ordering.{nat_cmp}
use Rattle.entry_ref.specs.Records.{Records, SameAt, Among}
use Rattle.tree_read.specs.Trees.{tree_nodes, tree_pairs, by_number, IsTree}
use Rattle.image_format.specs.Documents.{column_at, documents_reach, AreItemRecords}
use Rattle.image_format.specs.Values.{stored_value}
use Rattle.index_model.specs.Columns.{IsLawfulColumn, column_values}
use Rattle.attr_types.specs.declared.kind.Kind.{Kind}
use Rattle.attr_types.specs.declared.kind.ValueType.{ValueType}
use Rattle.attr_field.specs.Documents.{documents_own, documents_refer, IsDocuments}

-- no documents
abbrev pub NothingIsDocuments : Type 0
NothingIsDocuments = (kind : Kind) (type : ValueType) (m : Records)
    → IsDocuments kind type m 0 × (column_at kind type m 0 ≡ []) × (documents_own kind m 0 ≡ [])

-- documents stay the same, with their column and what they refer to, while the records that they own or refer to stay
-- the same
abbrev pub DocumentsStay : Type 0
DocumentsStay = (kind : Kind) (type : ValueType) (m n : Records) (root : ℕ)
    → SameAt (documents_own kind m root) m n → SameAt (documents_refer kind m root) m n → IsDocuments kind type m root
    → IsDocuments kind type n root × (column_at kind type n root ≡ column_at kind type m root)
    × (documents_refer kind n root ≡ documents_refer kind m root)

-- the conditions of a lawful image on documents
abbrev pub DocumentsAreLawful : Type 0
DocumentsAreLawful = (kind : Kind) (type : ValueType) (m : Records) (root : ℕ) → IsDocuments kind type m root
    → IsTree nat_cmp by_number m root × AllByRecursion (λ p. AreItemRecords kind type m p.1) (tree_pairs m root)
    × IsLawfulColumn kind (column_at kind type m root)

-- documents reach the records that they own, and those to which they refer
abbrev pub DocumentsReach : Type 0
DocumentsReach = (kind : Kind) (m : Records) (root r : ℕ)
    → Among r (tree_nodes m root ++ documents_reach kind m root) ↔ Among r (documents_own kind m root ++ documents_refer kind m root)

-- the records to which they refer are those of the column's values, in its order
abbrev pub DocumentsHaveValues : Type 0
DocumentsHaveValues = (kind : Kind) (type : ValueType) (m : Records) (root : ℕ)
    → map (stored_value type m) (documents_refer kind m root) ≡ column_values (column_at kind type m root)
