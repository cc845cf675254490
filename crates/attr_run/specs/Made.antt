-- Operations made from a number. Each takes three draws of one sequence.
use Rattle.std.specs.Prelude.{ℕ, zero, suc, ◌+◌, ◌*◌, ◌/◌, ◌%◌, ◌==◌, pos, ◌-ℤ◌, if◌then◌else◌, false}
use Rattle.std.specs.Prelude.{List, [], ◌∷◌, ◌++◌, map, codes}
use Rattle.std.specs.Fmt.{decimal}
use Rattle.attr_types.specs.declared.change.Change.{Change}
use Rattle.attr_types.specs.declared.change.Change.TheVariants.{Keep, Assign, Add}
use Rattle.attr_types.specs.declared.field.Field.{Field}
use Rattle.attr_types.specs.declared.items.Item.{Item}
use Rattle.attr_types.specs.declared.kind.Kind.{Kind}
use Rattle.attr_types.specs.declared.kind.Kind.TheVariants.{Single, Array, WeightedSet}
use Rattle.attr_types.specs.declared.kind.ValueType.{ValueType}
use Rattle.attr_types.specs.declared.kind.ValueType.TheVariants as types
use Rattle.attr_types.specs.declared.op.Op.{Op}
use Rattle.attr_types.specs.declared.op.Op.TheVariants.{Put, Update, Remove}
use Rattle.attr_types.specs.declared.value.Value.{Value}
use Rattle.attr_types.specs.declared.value.Value.TheVariants as values

-- the draw after a draw, or the first draw after the seed: from 0 to 65,535
abbrev pub next_draw : ℕ → ℕ
next_draw x = (x * 25173 + 13849) % 65536

-- the value of a number: the number less 512, or `t` and its digits
abbrev pub value_by : ValueType → ℕ → Value
value_by types.Long n = values.Long (pos n -ℤ pos 512)
value_by types.Text n = values.Text (codes "t" ++ decimal n)

-- the items of the first attribute: one, or two in an array; in a weighted set the first draw gives the weight
abbrev pub items_by : Kind → ValueType → ℕ → ℕ → List Item
items_by Single type a b = record { value = value_by type (b / 64); weight = pos 1 } ∷ []
items_by Array type a b =
    record { value = value_by type (b / 64); weight = pos 1 }
    ∷ record { value = value_by type (b / 64 + 1); weight = pos 1 } ∷ []
items_by WeightedSet type a b = record { value = value_by type (b / 64); weight = pos (a / 64) } ∷ []

abbrev pub change_of_kind : Kind → List Item → Change
change_of_kind Single items = Assign items
change_of_kind Array items = Add items
change_of_kind WeightedSet items = Add items

-- the items of a put: the other attributes have none
abbrev pub put_items : List Field → ℕ → ℕ → List (List Item)
put_items [] a b = []
put_items (field ∷ fields) a b = items_by field.kind field.value a b ∷ map (λ _. []) fields

-- the changes of an update: the other attributes do not change
abbrev pub update_changes : List Field → ℕ → ℕ → List Change
update_changes [] a b = []
update_changes (field ∷ fields) a b =
    change_of_kind field.kind (items_by field.kind field.value a b) ∷ map (λ _. Keep) fields

-- the operation of three draws: one in eight is a remove, one in eight an update, and the others are puts
abbrev pub op_by : List Field → ℕ → ℕ → ℕ → Op
op_by fields a b c =
    if c / 8192 == 0 then Remove (a / 16 + 1)
    else (if c / 8192 == 1 then Update (a / 16 + 1) false (update_changes fields a b)
    else Put (a / 16 + 1) (put_items fields a b))

abbrev pub second_draw : ℕ → ℕ
second_draw x = next_draw (next_draw x)

abbrev pub third_draw : ℕ → ℕ
third_draw x = next_draw (second_draw x)

-- `count` operations from the draws after x
abbrev pub made_from : ℕ → ℕ → List Field → List Op
made_from zero x fields = []
made_from (suc count) x fields =
    op_by fields (next_draw x) (second_draw x) (third_draw x) ∷ made_from count (third_draw x) fields

-- the operations made from a seed
unfoldable pub made : ℕ → ℕ → List Field → List Op
made count seed fields = made_from count seed fields
