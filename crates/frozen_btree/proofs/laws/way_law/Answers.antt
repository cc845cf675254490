use Rattle.frozen_btree.proofs.WayLemmas.{have_all_nodes, have_keys, stand_on_ways}
use Rattle.frozen_btree.proofs.laws.way_law.Goals as goal

pub returns-clause-ways : goal.returns-clause-ways
returns-clause-ways g c = stand_on_ways g.K.KeyOrder.order g.met.K.KeyOrder.total g.K.KeyOrder.read

pub returns-clause-keys : goal.returns-clause-keys
returns-clause-keys g c = have_keys g.K.KeyOrder.order g.met.K.KeyOrder.total g.K.KeyOrder.read

pub returns-clause-clear : goal.returns-clause-clear
returns-clause-clear g c = have_all_nodes g.K.KeyOrder.order g.met.K.KeyOrder.total g.K.KeyOrder.read g.row.OFFSET_BITS
