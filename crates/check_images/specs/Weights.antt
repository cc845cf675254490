-- The items of a stored list, each with its weight.
use Rattle.std.specs.Prelude.{ℕ, ℤ, pos, List, map}
use Rattle.image_format.specs.Words.{unpacked}
use Rattle.attr_types.specs.declared.kind.Kind.{Kind}
use Rattle.attr_types.specs.declared.kind.Kind.TheVariants.{Single, Array, WeightedSet}

-- only a weighted set has weights in its words
abbrev pub weights : Kind → List ℕ → List (ℕ × ℤ)
weights Single items = map (λ item. (item, pos 1)) items
weights Array items = map (λ item. (item, pos 1)) items
weights WeightedSet items = map unpacked items
