use Rattle.std.proofs.Common.{◌≡◌, drop}
use Rattle.attr_types.specs.Scores.{weight_of}
use Rattle.attr_types.proofs.score.weight_in.Given as goal

-- the items that are left decide as all do
abbrev pub invariant-loop-item : goal.invariant-loop-item
invariant-loop-item l = weight_of l.value (drop l.item-index l.items) ≡ weight_of l.value l.items
