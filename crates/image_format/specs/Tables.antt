-- Attributes side by side: their columns and table, and what they reach.
use Rattle.std.specs.Prelude.{◌≡◌, ℕ, List, [], ◌∷◌, map}
use Rattle.std.specs.List.{zip, flat_map, AllByRecursion}
use Rattle.std.specs.Map.{keys_of}
use Rattle.entry_ref.specs.Records.{Records}
use Rattle.image_format.specs.Attributes.{trees_reach, IsLawfulAttribute}
use Rattle.image_format.specs.Documents.{column_at}
use Rattle.index_model.specs.Columns.{Column, table_of_column}
use Rattle.attr_types.specs.Table.{Table}
use Rattle.attr_types.specs.declared.kind.Kind.{Kind}
use Rattle.attr_types.specs.declared.kind.ValueType.{ValueType}

-- an attribute by its kind, its value type and the roots of its two trees
pub record AttributeTrees : Type 0 where
  pub kind : Kind
  pub type : ValueType
  pub documents : ℕ
  pub dictionary : ℕ

abbrev pub types_at : List AttributeTrees → List (Kind × ValueType)
types_at attributes = map (λ a. (a.kind, a.type)) attributes

-- columns with the same documents as one table: each document with its items in each column
abbrev pub table_of_columns : List Column → Table
table_of_columns [] = []
table_of_columns (column ∷ []) = table_of_column column
table_of_columns (column ∷ next ∷ rest) = map (λ p. (p.0.0, p.0.1 ∷ p.1.1)) (zip column (table_of_columns (next ∷ rest)))

-- all columns have the documents of the first
abbrev pub HaveSameDocuments : List Column → Type 0
HaveSameDocuments [] = Unit {0}
HaveSameDocuments (column ∷ rest) = AllByRecursion (λ other. keys_of other ≡ keys_of column) rest

abbrev pub columns_at : Records → List AttributeTrees → List Column
columns_at m attributes = map (λ a. column_at a.kind a.type m a.documents) attributes

abbrev pub attributes_reach : Records → List AttributeTrees → List ℕ
attributes_reach m attributes = flat_map (λ a. trees_reach a.kind m a.documents a.dictionary) attributes

-- each is lawful, and all have the same documents
pub record AreLawfulAttributes (m : Records) (attributes : List AttributeTrees) : Type 0 where
  pub each : AllByRecursion (λ a. IsLawfulAttribute a.kind a.type m a.documents a.dictionary) attributes
  pub documents : HaveSameDocuments (columns_at m attributes)
