-- Laws of made operations.
use Rattle.std.specs.Prelude.{ℕ, List}
use Rattle.std.specs.List.{AllByRecursion}
use Rattle.attr_types.specs.Lawful.{OpFits}
use Rattle.attr_types.specs.declared.field.Field.{Field}
use Rattle.attr_run.specs.Made.{made}

-- made operations fit the attributes, for every seed
abbrev pub MadeOpsFit : Type 0
MadeOpsFit = (count seed : ℕ) (fields : List Field) → AllByRecursion (OpFits fields) (made count seed fields)
