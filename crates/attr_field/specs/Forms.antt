-- Bit vectors in one attribute.
use Rattle.std.specs.Prelude.{Bool, false}
use Rattle.attr_types.specs.declared.kind.Kind.{Kind}
use Rattle.attr_types.specs.declared.kind.Kind.TheVariants.{Single, Array, WeightedSet}

-- whether they are wanted: never with weighted sets
abbrev pub wants : Bool → Kind → Bool
wants dense Single = dense
wants dense Array = dense
wants dense WeightedSet = false
