-- Values with how often each is in a list.
use Rattle.std.specs.Prelude.{ℕ, ◌+◌, List, [], ◌∷◌, map, cond}
use Rattle.std.specs.Ordering.{eq_by_cmp}
use Rattle.attr_types.specs.Value.{value_cmp}
use Rattle.attr_types.specs.declared.value.Value.{Value}
use Rattle.result_model.specs.Orders.{in_order}
use Rattle.result_model.specs.declared.group.Group.{Group}
use Rattle.query_results.specs.declared.group_keys.GroupKey.{GroupKey}

-- how often a value is among some
abbrev pub copies : Value → List Value → ℕ
copies value [] = 0
copies value (v ∷ vs) = cond (eq_by_cmp value_cmp value v) 1 0 + copies value vs

-- the distinct ones of some values, ascending, each with how often it is there
abbrev pub groups_of : List Value → List Group
groups_of values = map (λ value. record { value = value; count = copies value values }) (in_order value_cmp values)

-- groups of equal neighbours, of which the first has `count` copies of a value already
abbrev pub with_run : Value → ℕ → List Value → List Group
with_run value count [] = record { value = value; count = count } ∷ []
with_run value count (next ∷ rest) =
    cond (eq_by_cmp value_cmp next value) (with_run value (count + 1) rest) (record { value = value; count = count } ∷ with_run next 1 rest)

-- groups of equal neighbours
abbrev pub runs : List Value → List Group
runs [] = []
runs (value ∷ rest) = with_run value 1 rest

-- a group as a key by which it is sorted, and back
abbrev pub as_group_key : Group → GroupKey
as_group_key group = record { count = record { 0 = group.count }; value = group.value }

abbrev pub as_group : GroupKey → Group
as_group key = record { value = key.value; count = key.count.0 }
