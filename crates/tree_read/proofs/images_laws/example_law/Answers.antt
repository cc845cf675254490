use Rattle.tree_read.proofs.ExampleLemmas.{two_leaves_are_a_tree, two_leaves_read}
use Rattle.tree_read.proofs.images_laws.example_law.Goals as goal

pub returns-clause-tree : goal.returns-clause-tree
returns-clause-tree c = two_leaves_are_a_tree

pub returns-clause-reads : goal.returns-clause-reads
returns-clause-reads c = two_leaves_read
