use Rattle.tree_read.proofs.TreeLemmas.{tree_pairs-kept, IsRootNode-kept}
use Rattle.tree_read.specs.ProofsForTrees.{tree_pairs-same}
use Rattle.tree_read.proofs.images_laws.frame_law.Goals as goal

pub returns-clause-same : goal.returns-clause-same
returns-clause-same c = tree_pairs-same

pub returns-clause-pairs : goal.returns-clause-pairs
returns-clause-pairs c = tree_pairs-kept

pub returns-clause-root : goal.returns-clause-root
returns-clause-root c = IsRootNode-kept
