use Rattle.frozen_nodes.proofs.MakeWordLemmas.{words-put, words-over, words-size}
use Rattle.frozen_nodes.proofs.node_parts.add_slot.Goals as goal

pub returns : goal.returns
returns c level count keys values are low room =
    let words = c.args.words.now in
    words-put level count c.args.pairs keys values words _ c.args.slot c.args.key c.args.value are low room
    (words-over words c.args.pairs c.args.slot c.args.key c.args.value c.put_both.new.words (words-size level count keys values words are) c.put_both.ensures)
