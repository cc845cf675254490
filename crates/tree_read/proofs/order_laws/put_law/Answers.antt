use Rattle.std.proofs.Common.{arith}
use Rattle.tree_read.proofs.PairLemmas.{lookup-put, length-put_most}
use Rattle.tree_read.proofs.OrderLemmas.{put-ascends}
use Rattle.tree_read.proofs.order_laws.put_law.Goals as goal

pub returns-clause-found : goal.returns-clause-found
returns-clause-found g c = lookup-put

pub returns-clause-count : goal.returns-clause-count
returns-clause-count g c sees pair ps = let most = length-put_most sees pair ps in omega arith

pub returns-clause-ascends : goal.returns-clause-ascends
returns-clause-ascends g c m s pair ps e up =
    let key = g.K.KeyOrder in
    put-ascends key.order (key.read m) g.met.K.KeyOrder.total s pair ps e up
