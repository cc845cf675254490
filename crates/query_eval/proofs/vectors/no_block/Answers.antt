use Rattle.query_eval.proofs.ListLemmas.{zero_bits}
use Rattle.query_eval.proofs.vectors.no_block.Goals as goal

pub returns : goal.returns
returns c = zero_bits 64
