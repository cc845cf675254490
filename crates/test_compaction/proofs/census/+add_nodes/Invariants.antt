use Rattle.std.proofs.Common.{◌<◌}
use Rattle.test_compaction.proofs.census.+add_nodes.Given as goal

-- a level above is one more
abbrev pub decreases-add_nodes : goal.decreases-add_nodes
decreases-add_nodes l = l.level

abbrev pub invariant-loop-i : goal.invariant-loop-i
invariant-loop-i l = 0 < l.level
