use Rattle.tree_read.proofs.NodeLemmas.{node_formed, node_keys-words, node_values-words}
use Rattle.tree_read.proofs.images_laws.node_law.Goals as goal

pub returns-clause-form : goal.returns-clause-form
returns-clause-form c = node_formed

pub returns-clause-reads : goal.returns-clause-reads
returns-clause-reads c = λ level count keys values same few. (node_keys-words level count keys values same few, node_values-words level count keys values same few)
