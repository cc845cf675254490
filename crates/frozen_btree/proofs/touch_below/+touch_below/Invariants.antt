use Rattle.frozen_btree.proofs.touch_below.+touch_below.Given as goal

abbrev pub decreases-touch_below : goal.decreases-touch_below
decreases-touch_below g l = l.level
