-- Queries as trees, and which documents they match.
use Rattle.std.specs.Prelude.{ℕ, Bool, true, false, ◌&&◌, ◌||◌, IsTrue, List, [], ◌∷◌, map, Option, Some}
use Rattle.std.specs.Prelude.{None, nat_eq, slice_get, unwrap_or}
use Rattle.std.specs.List.{list_any, starts_with}
use Rattle.std.specs.Ordering.{is_lt, is_le, is_eq}
use Rattle.attr_types.specs.Value.{value_cmp, Document}
use Rattle.attr_types.specs.declared.items.Item.{Item}
use Rattle.attr_types.specs.declared.query.Leaf.{Leaf}
use Rattle.attr_types.specs.declared.query.Leaf.TheVariants.{Is, Prefix, Range, Below, Above}
use Rattle.attr_types.specs.declared.query.Query.{Query, fold-Query}
use Rattle.attr_types.specs.declared.query.Query.TheOpen.{Query-F}
use Rattle.attr_types.specs.declared.value.Value.{Value}
use Rattle.attr_types.specs.declared.value.Value.TheVariants as values

-- a query, without its place in memory
mutual
  pub data QueryTree : Type 0 where
    one : ℕ → Leaf → QueryTree
    and : QueryTrees → QueryTree
    or : QueryTrees → QueryTree

  pub data QueryTrees : Type 0 where
    no_trees : QueryTrees
    tree : QueryTree → QueryTrees → QueryTrees

abbrev pub trees : List QueryTree → QueryTrees
trees [] = no_trees
trees (t ∷ ts) = tree t (trees ts)

-- one level of a query whose members are already trees
abbrev pub tree_step : Query-F QueryTree → QueryTree
tree_step (Query-F.One field leaf) = one field leaf
tree_step (Query-F.And queries) = and (trees queries.items)
tree_step (Query-F.Or queries) = or (trees queries.items)

abbrev pub tree_of : Query → QueryTree
tree_of = fold-Query QueryTree tree_step

abbrev pub query_trees : List Query → QueryTrees
query_trees queries = trees (map tree_of queries)

-- a text begins with these bytes
abbrev pub begins_with : Value → List ℕ → Bool
begins_with (values.Text text) bytes = starts_with nat_eq text bytes
begins_with (values.Long number) bytes = false

-- a missing bound sets no limit
abbrev pub is_from : Option Value → Value → Bool
is_from None value = true
is_from (Some low) value = is_le (value_cmp low value)

abbrev pub is_up_to : Option Value → Value → Bool
is_up_to None value = true
is_up_to (Some high) value = is_le (value_cmp value high)

-- a value meets a leaf: the bounds of a range are included, those of `Below` and `Above` are not
abbrev pub meets : Leaf → Value → Bool
meets (Is wanted) value = is_eq (value_cmp wanted value)
meets (Prefix bytes) value = begins_with value bytes
meets (Range low high) value = is_from low value && is_up_to high value
meets (Below high) value = is_lt (value_cmp value high)
meets (Above low) value = is_lt (value_cmp low value)

-- some item meets the leaf
abbrev pub meets_some : Leaf → List Item → Bool
meets_some leaf items = list_any (λ item. meets leaf item.value) items

abbrev pub has_items : List Item → Bool
has_items [] = false
has_items (item ∷ items) = true

-- the items of a document in the attribute with this number
abbrev pub items_in : Document → ℕ → List Item
items_in document field = unwrap_or (slice_get document field) []

-- whether a query matches a document: a leaf requires a single item of its attribute that meets it, so a document
-- without items in any attribute matches nothing
abbrev mutual
  pub matches : QueryTree → Document → Bool
  matches (one field leaf) document = meets_some leaf (items_in document field)
  matches (and members) document = list_any has_items document && all_match members document
  matches (or members) document = some_match members document

  pub all_match : QueryTrees → Document → Bool
  all_match no_trees document = true
  all_match (tree t ts) document = matches t document && all_match ts document

  pub some_match : QueryTrees → Document → Bool
  some_match no_trees document = false
  some_match (tree t ts) document = matches t document || some_match ts document

abbrev pub Matches : QueryTree → Document → Type 0
Matches query document = IsTrue (matches query document)
