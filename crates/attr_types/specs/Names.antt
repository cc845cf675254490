-- The names of attributes, kinds and value types.
use Rattle.std.specs.Prelude.{ℕ, Bool, false, ◌&&◌, ◌||◌, ◌==◌, nat_le, List, codes}
use Rattle.std.specs.Prelude.{slice_get, if◌then◌else◌, Option, Some, None}
use Rattle.std.specs.List.{list_all, position}
use Rattle.std.specs.Str.{bytes_eq}
use Rattle.attr_types.specs.declared.field.Field.{Field}
use Rattle.attr_types.specs.declared.kind.Kind.{Kind}
use Rattle.attr_types.specs.declared.kind.Kind.TheVariants as kinds
use Rattle.attr_types.specs.declared.kind.ValueType.{ValueType}
use Rattle.attr_types.specs.declared.kind.ValueType.TheVariants as types

-- a letter from A to Z or a to z, or `_`
abbrev pub begins_name : ℕ → Bool
begins_name byte = (nat_le 65 byte && nat_le byte 90) || (nat_le 97 byte && nat_le byte 122) || (byte == 95)

-- a byte that may begin a name, or a digit
abbrev pub continues_name : ℕ → Bool
continues_name byte = begins_name byte || (nat_le 48 byte && nat_le byte 57)

abbrev pub is_begun : Option ℕ → Bool
is_begun None = false
is_begun (Some byte) = begins_name byte

-- an attribute name in queries and for `--field`: one or more such bytes, and the first is not a digit
abbrev pub is_name : List ℕ → Bool
is_name text = is_begun (slice_get text 0) && list_all continues_name text

-- the kind with this name
abbrev pub kind_named : List ℕ → Option Kind
kind_named name =
    if bytes_eq name (codes "single") then Some kinds.Single
    else (if bytes_eq name (codes "array") then Some kinds.Array
    else (if bytes_eq name (codes "weightedset") then Some kinds.WeightedSet else None))

-- the value type with this name
abbrev pub value_named : List ℕ → Option ValueType
value_named name =
    if bytes_eq name (codes "long") then Some types.Long
    else (if bytes_eq name (codes "string") then Some types.Text else None)

-- the number of the attribute with this name, counted from 0
abbrev pub field_named : List Field → List ℕ → Option ℕ
field_named fields name = position (λ field. bytes_eq field.name name) fields
