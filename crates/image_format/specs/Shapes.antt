-- The shape of an image: the kind and the value type of each attribute, in one number.
use Rattle.std.specs.Prelude.{ℕ, zero, suc, ◌+◌, ◌-◌, ◌*◌, ◌/◌, ◌%◌, nat_eq, List, [], ◌∷◌, map, if◌then◌else◌}
use Rattle.attr_types.specs.declared.field.TheConstants.{MOST_FIELDS}
use Rattle.attr_types.specs.declared.field.Field.{Field}
use Rattle.attr_types.specs.declared.kind.Kind.{Kind}
use Rattle.attr_types.specs.declared.kind.Kind.TheVariants.{Single, Array, WeightedSet}
use Rattle.attr_types.specs.declared.kind.ValueType.{ValueType}
use Rattle.attr_types.specs.declared.kind.ValueType.TheVariants as types

-- the numbers of kinds and value types, counted from 0
abbrev pub kind_number : Kind → ℕ
kind_number Single = 0
kind_number Array = 1
kind_number WeightedSet = 2

abbrev pub type_number : ValueType → ℕ
type_number types.Long = 0
type_number types.Text = 1

abbrev pub kind_numbered : ℕ → Kind
kind_numbered zero = Single
kind_numbered (suc zero) = Array
kind_numbered (suc (suc n)) = WeightedSet

abbrev pub type_numbered : ℕ → ValueType
type_numbered zero = types.Long
type_numbered (suc n) = types.Text

-- an attribute's digit, from 1 to 6, and the attribute of a digit
abbrev pub digit_of : Kind × ValueType → ℕ
digit_of t = 1 + 2 * kind_number t.0 + type_number t.1

abbrev pub type_of_digit : ℕ → Kind × ValueType
type_of_digit digit = (kind_numbered ((digit - 1) / 2), type_numbered ((digit - 1) % 2))

-- the digits to base 8, the first attribute's digit lowest
abbrev pub shape_of : List (Kind × ValueType) → ℕ
shape_of [] = 0
shape_of (t ∷ ts) = digit_of t + 8 * shape_of ts

-- the attributes of the lowest `n` digits
abbrev pub types_below : ℕ → ℕ → List (Kind × ValueType)
types_below zero shape = []
types_below (suc n) shape = if nat_eq shape 0 then [] else (type_of_digit (shape % 8) ∷ types_below n (shape / 8))

unfoldable pub types_of_shape : ℕ → List (Kind × ValueType)
types_of_shape shape = types_below MOST_FIELDS shape

-- the kinds and value types of fields
abbrev pub types_of : List Field → List (Kind × ValueType)
types_of fields = map (λ field. (field.kind, field.value)) fields
