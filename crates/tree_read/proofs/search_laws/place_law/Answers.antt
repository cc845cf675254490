use Rattle.tree_read.proofs.FrameLemmas.{at-same, pairs_from-same}
use Rattle.tree_read.proofs.search_laws.place_law.Goals as goal

pub returns : goal.returns
returns c = record { at = at-same; pairs = pairs_from-same }
