use Rattle.tree_changes.proofs.layers.+settle.Given as goal

abbrev pub decreases-settle : goal.decreases-settle
decreases-settle g l = l.count
