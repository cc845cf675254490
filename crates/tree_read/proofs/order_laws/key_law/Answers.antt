use Rattle.tree_read.proofs.OrderKeyLemmas.{keys-readable, keys-apart, ascends-stay}
use Rattle.tree_read.proofs.order_laws.key_law.Goals as goal

pub returns-clause-readable : goal.returns-clause-readable
returns-clause-readable g c m n ps keeps can none =
    let key = g.K.KeyOrder in
    keys-readable key.can_read key.read key.reads_from g.met.K.KeyOrder.stays m n keeps ps can none

pub returns-clause-ascends : goal.returns-clause-ascends
returns-clause-ascends g c m n ps keeps can none up =
    let key = g.K.KeyOrder in
    ascends-stay key.can_read key.read key.reads_from g.met.K.KeyOrder.stays m n keeps key.order ps can none up

pub returns-clause-apart : goal.returns-clause-apart
returns-clause-apart g c m n ps keeps can none =
    let key = g.K.KeyOrder in
    keys-apart key.order key.can_read key.read key.reads_from g.met.K.KeyOrder.stays g.met.K.KeyOrder.steady m n keeps ps can none
