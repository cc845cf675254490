use Rattle.std.proofs.Common.{◌≡◌, ◌++◌, option_map}
use Rattle.std.specs.Vec.Iter.{into_iter_items}
use Rattle.feed_reader.specs.Grammar.{all_some}
use Rattle.feed_reader.proofs.fields.all_known.Given as goal

-- the changes so far, before what the others say, are what all say
abbrev pub invariant-loop-change : goal.invariant-loop-change
invariant-loop-change l = option_map (λ more. l.known.items ++ more) (all_some (into_iter_items l.change-iterator)) ≡ all_some l.fn.changes.items
