use Rattle.tree_read.proofs.OrderKeyLemmas.{keyed-stays, word-stays}
use Rattle.tree_read.proofs.order_laws.keyed_law.Goals as goal

pub returns-clause-tree : goal.returns-clause-tree
returns-clause-tree g c m n root nodes keys keyed =
    let key = g.K.KeyOrder in
    keyed-stays key.order key.can_read key.read key.reads_from g.met.K.KeyOrder.stays g.met.K.KeyOrder.steady m n root nodes keys keyed

pub returns-clause-word : goal.returns-clause-word
returns-clause-word g c m n sought word keeps is =
    let key = g.K.KeyOrder in
    word-stays key.order key.can_read key.read key.reads_from g.met.K.KeyOrder.stays g.met.K.KeyOrder.steady m n keeps sought word is
