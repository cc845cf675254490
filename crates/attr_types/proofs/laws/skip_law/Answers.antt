use Rattle.attr_types.proofs.TableLemmas.{skipped_leaves}
use Rattle.attr_types.proofs.laws.skip_law.Goals as goal

pub returns : goal.returns
returns c = skipped_leaves
