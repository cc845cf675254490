-- The documents that the indexes of a table's attributes determine for a query.
use Rattle.std.specs.Prelude.{ℕ, ◌+◌, Bool, true, false, ◌&&◌, ◌||◌, List, [], ◌∷◌, slice_get, unwrap_or}
use Rattle.std.specs.List.{list_any}
use Rattle.index_model.specs.Columns.{column_of}
use Rattle.index_model.specs.Index.{Index, IsIndexOf}
use Rattle.attr_types.specs.Query.{QueryTree, QueryTrees, one, and, or, no_trees, tree}
use Rattle.attr_types.specs.Table.{Table}
use Rattle.index_model.specs.Sets.{has}
use Rattle.index_model.specs.Leaves.{listed, meeting}

-- the indexes of a table's attributes, from number i on
abbrev pub AreIndexesFrom : ℕ → Table → List Index → Type 0
AreIndexesFrom i table [] = Unit {0}
AreIndexesFrom i table (index ∷ rest) = IsIndexOf (column_of i table) index × AreIndexesFrom (i + 1) table rest

-- the index of the attribute with this number
abbrev pub index_at : List Index → ℕ → Index
index_at indexes field = unwrap_or (slice_get indexes field) []

-- a document has a value in some attribute
abbrev pub is_listed : List Index → ℕ → Bool
is_listed indexes doc = list_any (λ index. has (listed index) doc) indexes

-- the documents that the indexes determine for a query: those of a leaf, those of all members, or those of some
-- member; an `And` without members has all documents that have a value
abbrev mutual
  pub found : QueryTree → List Index → ℕ → Bool
  found (one field leaf) indexes doc = has (listed (meeting leaf (index_at indexes field))) doc
  found (and no_trees) indexes doc = is_listed indexes doc
  found (and (tree t ts)) indexes doc = found t indexes doc && found_all ts indexes doc
  found (or members) indexes doc = found_some members indexes doc

  pub found_all : QueryTrees → List Index → ℕ → Bool
  found_all no_trees indexes doc = true
  found_all (tree t ts) indexes doc = found t indexes doc && found_all ts indexes doc

  pub found_some : QueryTrees → List Index → ℕ → Bool
  found_some no_trees indexes doc = false
  found_some (tree t ts) indexes doc = found t indexes doc || found_some ts indexes doc
