-- The part of an index that a leaf needs.
use Rattle.std.specs.Prelude.{ℕ, Bool, not, List, [], ◌∷◌, filter, Option, Some, None, if◌then◌else◌, false}
use Rattle.std.specs.List.{flat_map}
use Rattle.std.specs.Map.{keys_of}
use Rattle.std.specs.Ordering.{is_lt, is_le}
use Rattle.index_model.specs.Index.{Index}
use Rattle.attr_types.specs.Query.{meets, begins_with}
use Rattle.attr_types.specs.Value.{value_cmp}
use Rattle.attr_types.specs.declared.query.Leaf.{Leaf}
use Rattle.attr_types.specs.declared.query.Leaf.TheVariants.{Is, Prefix, Range, Below, Above}
use Rattle.attr_types.specs.declared.value.Value.{Value}
use Rattle.attr_types.specs.declared.value.Value.TheVariants as values

-- the documents in the lists of an index
abbrev pub listed : Index → List ℕ
listed index = flat_map (λ e. keys_of e.1) index

-- the lists whose values meet a leaf
abbrev pub meeting : Leaf → Index → Index
meeting leaf index = filter (λ e. meets leaf e.0) index

-- a value is before those that meet a leaf, or after them
abbrev pub stands_before : Leaf → Value → Bool
stands_before (Is wanted) value = is_lt (value_cmp value wanted)
stands_before (Prefix bytes) value = is_lt (value_cmp value (values.Text bytes))
stands_before (Range None high) value = false
stands_before (Range (Some low) high) value = is_lt (value_cmp value low)
stands_before (Below high) value = false
stands_before (Above low) value = is_le (value_cmp value low)

abbrev pub stands_beyond : Leaf → Value → Bool
stands_beyond (Is wanted) value = is_lt (value_cmp wanted value)
stands_beyond (Prefix bytes) value = not (begins_with value bytes)
stands_beyond (Range low None) value = false
stands_beyond (Range low (Some high)) value = is_lt (value_cmp high value)
stands_beyond (Below high) value = is_le (value_cmp high value)
stands_beyond (Above low) value = false

-- the index from the first value that is not before those that meet the leaf
abbrev pub from : Leaf → Index → Index
from leaf [] = []
from leaf (e ∷ es) = if stands_before leaf e.0 then from leaf es else (e ∷ es)

-- the index up to the first value that is after those that meet the leaf
abbrev pub run : Leaf → Index → Index
run leaf [] = []
run leaf (e ∷ es) = if stands_beyond leaf e.0 then [] else (e ∷ run leaf es)

-- the value at which the walk of a leaf begins; without one it begins at the first value
abbrev pub sought : Leaf → Option Value
sought (Is wanted) = Some wanted
sought (Prefix bytes) = Some (values.Text bytes)
sought (Range low high) = low
sought (Below high) = None
sought (Above low) = Some low

-- the index from the first value that is not below this one
abbrev pub from_value : Value → Index → Index
from_value low [] = []
from_value low (e ∷ es) = if is_lt (value_cmp e.0 low) then from_value low es else (e ∷ es)

abbrev pub from_sought : Option Value → Index → Index
from_sought None index = index
from_sought (Some low) index = from_value low index
