use Rattle.std.proofs.Common.{arith}
use Rattle.tree_read.proofs.PairLemmas.{length-take_out, take_out-none}
use Rattle.tree_read.proofs.OrderLemmas.{take_out-ascends}
use Rattle.tree_read.proofs.order_laws.take_out_law.Goals as goal

pub returns-clause-count : goal.returns-clause-count
returns-clause-count g c sees ps there = let count = length-take_out sees ps there in omega arith

pub returns-clause-none : goal.returns-clause-none
returns-clause-none g c = take_out-none

pub returns-clause-ascends : goal.returns-clause-ascends
returns-clause-ascends g c m sees ps up =
    let key = g.K.KeyOrder in
    take_out-ascends key.order (key.read m) sees ps up
