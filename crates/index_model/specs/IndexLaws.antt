-- How the indexes of a table answer queries.
use Rattle.std.specs.Prelude.{◌≡◌, ℕ, List, length}
use Rattle.std.specs.List.{AllByRecursion}
use Rattle.std.specs.List.Sorted.{IsStrictlySortedBy}
use Rattle.std.specs.Map.{keys_of}
use Rattle.index_model.specs.Columns.{Column, IsLawfulColumn}
use Rattle.index_model.specs.Index.{Index, IsIndexOf}
use Rattle.attr_types.specs.Lawful.{IsLawfulTable}
use Rattle.attr_types.specs.Query.{QueryTree}
use Rattle.attr_types.specs.Table.{Table, hits}
use Rattle.attr_types.specs.Value.{value_cmp}
use Rattle.attr_types.specs.declared.field.Field.{Field}
use Rattle.attr_types.specs.declared.kind.Kind.{Kind}
use Rattle.attr_types.specs.declared.query.Leaf.{Leaf}
use Rattle.index_model.specs.Postings.{HaveDocNumbers}
use Rattle.index_model.specs.Sets.{Holds}
use Rattle.index_model.specs.Found.{AreIndexesFrom, found}
use Rattle.index_model.specs.Leaves.{meeting, from, run, sought, from_sought}

-- what the indexes of a table determine for a query is, in ascending order, its hits
abbrev pub FoundAreHits : Type 0
FoundAreHits = (fields : List Field) (table : Table) (indexes : List Index) (query : QueryTree) (docs : List ℕ)
    → IsLawfulTable fields table → length indexes ≡ length fields → AreIndexesFrom 0 table indexes
    → Holds docs (found query indexes) → docs ≡ hits query table

-- the values that meet a leaf are consecutive among the ascending values
abbrev pub RunIsFilter : Type 0
RunIsFilter = (index : Index) (leaf : Leaf) → IsStrictlySortedBy value_cmp (keys_of index)
    → run leaf (from leaf index) ≡ meeting leaf index

-- they begin at the value that the leaf seeks, or after it
abbrev pub SoughtIsFilter : Type 0
SoughtIsFilter = (index : Index) (leaf : Leaf) → IsStrictlySortedBy value_cmp (keys_of index)
    → run leaf (from leaf (from_sought (sought leaf) index)) ≡ meeting leaf index

abbrev pub IndexListsDocuments : Type 0
IndexListsDocuments = (kind : Kind) (column : Column) (index : Index) → IsLawfulColumn kind column → IsIndexOf column index
    → AllByRecursion (λ e. HaveDocNumbers e.1) index
