-- Groups of documents by their values, and the terms of an attribute.
use Rattle.std.specs.Prelude.{ℕ, Bool, List, map, filter, length, take}
use Rattle.std.specs.declared.cmp.Ordering.{Ordering}
use Rattle.std.specs.List.{flat_map, list_any}
use Rattle.std.specs.Map.{keys_of}
use Rattle.std.specs.Ordering.{nat_cmp, ordering_then}
use Rattle.attr_types.specs.Query.{meets}
use Rattle.attr_types.specs.Scores.{has_value}
use Rattle.attr_types.specs.Table.{Table}
use Rattle.attr_types.specs.Value.{value_cmp, values_of}
use Rattle.attr_types.specs.declared.query.Leaf.{Leaf}
use Rattle.attr_types.specs.declared.value.Value.{Value}
use Rattle.result_model.specs.Orders.{in_order}
use Rattle.result_model.specs.Values.{items_of}
use Rattle.result_model.specs.declared.group.Group.{Group}

-- a document has an item with a value
abbrev pub has : ℕ → Table → Value → ℕ → Bool
has field table value doc = list_any (has_value value) (items_of field table doc)

-- how many of these documents have a value
abbrev pub count_with : ℕ → List ℕ → Table → Value → ℕ
count_with field docs table value = length (filter (has field table value) docs)

-- the distinct values of these documents, ascending
abbrev pub distinct_values : ℕ → List ℕ → Table → List Value
distinct_values field docs table = in_order value_cmp (flat_map (λ doc. values_of (items_of field table doc)) docs)

-- each distinct value of these documents with how many of them have it, ascending by value
abbrev pub all_groups : ℕ → List ℕ → Table → List Group
all_groups field docs table =
    map (λ value. record { value = value; count = count_with field docs table value }) (distinct_values field docs table)

-- the first `count` groups by value
abbrev pub groups : ℕ → List ℕ → ℕ → Table → List Group
groups field docs count table = take count (all_groups field docs table)

-- the greatest count first; equal counts ascend by value
abbrev pub by_count : Group → Group → Ordering
by_count a b = ordering_then (nat_cmp b.count a.count) (value_cmp a.value b.value)

-- the `count` groups with the most documents
abbrev pub largest_groups : ℕ → List ℕ → ℕ → Table → List Group
largest_groups field docs count table = take count (in_order by_count (all_groups field docs table))

-- the first `count` of an attribute's values that meet a leaf, ascending, each with how many documents have it
abbrev pub terms : ℕ → Leaf → ℕ → Table → List Group
terms field leaf count table = take count (filter (λ group. meets leaf group.value) (all_groups field (keys_of table) table))
