use Rattle.frozen_nodes.proofs.MakeWordLemmas.{words-set}
use Rattle.frozen_nodes.proofs.node_parts.set_slot.Goals as goal

pub returns : goal.returns
returns c level count keys values are low = words-set level count c.args.pairs keys values c.args.words.now c.args.slot c.args.key c.args.value are low
