use Rattle.std.specs.Ordering.{nat_cmp}
use Rattle.std.proofs.lemmas.Cmp.{nat_cmp_total}
use Rattle.tree_read.proofs.DistinctLemmas.{tree_nodes_distinct}
use Rattle.tree_read.proofs.TreeLemmas.{keys_ascend, root_count, many_pairs}
use Rattle.tree_read.specs.Trees.{by_number}
use Rattle.tree_read.proofs.images_laws.tree_law.Goals as goal

pub returns-clause-ascend : goal.returns-clause-ascend
returns-clause-ascend c = keys_ascend

pub returns-clause-count : goal.returns-clause-count
returns-clause-count c = root_count

pub returns-clause-many : goal.returns-clause-many
returns-clause-many c = many_pairs

pub returns-clause-distinct : goal.returns-clause-distinct
returns-clause-distinct c = tree_nodes_distinct nat_cmp nat_cmp_total by_number
