use Rattle.frozen_btree.proofs.remove_below.+remove_below.Given as goal

abbrev pub decreases-remove_below : goal.decreases-remove_below
decreases-remove_below g l = l.level
