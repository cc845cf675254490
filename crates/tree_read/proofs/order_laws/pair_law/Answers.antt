use Rattle.tree_read.proofs.PairLemmas.{lookup-of_pair}
use Rattle.tree_read.proofs.order_laws.pair_law.Goals as goal

pub returns : goal.returns
returns c = lookup-of_pair
