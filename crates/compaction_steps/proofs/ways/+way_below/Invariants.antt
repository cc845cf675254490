use Rattle.compaction_steps.proofs.ways.+way_below.Given as goal

abbrev pub decreases-way_below : goal.decreases-way_below
decreases-way_below g l = l.level
