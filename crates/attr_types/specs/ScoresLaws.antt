-- Laws of the scores of a dot product.
use Rattle.std.specs.Prelude.{ℕ, ◌<◌, ◌^◌, List, length, map}
use Rattle.std.specs.Int.{w32, w128}
use Rattle.std.specs.Int.RustNames.{FitsSigned}
use Rattle.std.specs.List.{AllByRecursion}
use Rattle.std.specs.List.Sorted.{IsStrictlyIncreasing, IsStrictlySortedBy}
use Rattle.std.specs.Map.{keys_of}
use Rattle.std.specs.Ordering.{nat_cmp}
use Rattle.attr_types.specs.Table.{Table}
use Rattle.attr_types.specs.declared.items.Item.{Item}
use Rattle.attr_types.specs.Scores.{score_of, scores}
use Rattle.attr_types.specs.declared.part.Part.{Part}

-- weights have 32 signed bits, and every sum of their products fits in 128
abbrev pub ScoresFit : Type 0
ScoresFit = (parts : List Part) (items : List Item) → length parts < 2 ^ 64
    → AllByRecursion (λ part. FitsSigned w32 part.weight) parts
    → AllByRecursion (λ item. FitsSigned w32 item.weight) items
    → FitsSigned w128 (score_of parts items)

-- if the documents of a table ascend, so do the documents with scores
abbrev pub ScoresAscend : Type 0
ScoresAscend = (field : ℕ) (parts : List Part) (table : Table) → IsStrictlySortedBy nat_cmp (keys_of table)
    → IsStrictlyIncreasing (map (λ score. score.doc) (scores field parts table))
