use Rattle.image_format.proofs.ImageLemmas.{dictionary_is_index, values_ascend, attribute_is_lawful, roots_there}
use Rattle.tree_read.proofs.DistinctLemmas.{tree_nodes_distinct}
use Rattle.image_format.specs.Values.{stored_value}
use Rattle.attr_types.specs.Value.{value_cmp}
use Rattle.attr_types.specs.ProofsForOrder.{value_cmp_total}
use Rattle.image_format.proofs.laws.attribute_law.Goals as goal

pub returns-clause-index : goal.returns-clause-index
returns-clause-index c = dictionary_is_index

pub returns-clause-values : goal.returns-clause-values
returns-clause-values c = values_ascend

pub returns-clause-lawful : goal.returns-clause-lawful
returns-clause-lawful c = attribute_is_lawful

pub returns-clause-roots : goal.returns-clause-roots
returns-clause-roots c = roots_there

pub returns-clause-distinct : goal.returns-clause-distinct
returns-clause-distinct c = λ type. tree_nodes_distinct value_cmp value_cmp_total (stored_value type)
