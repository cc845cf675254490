use Rattle.tree_read.proofs.PlainLemmas.{lookup-plain, seek-plain}
use Rattle.tree_read.proofs.search_laws.search_law.Goals as goal

pub returns-clause-lookup : goal.returns-clause-lookup
returns-clause-lookup g c m s ps up =
    let key = g.K.KeyOrder in
    lookup-plain key.order g.met.K.KeyOrder.total (key.read m) s ps up

pub returns-clause-seek : goal.returns-clause-seek
returns-clause-seek g c m s ps up =
    let key = g.K.KeyOrder in
    seek-plain key.order g.met.K.KeyOrder.total (key.read m) s ps up
