use Rattle.image_format.proofs.BlockLemmas.{block_has_bits, block_ascends}
use Rattle.image_format.proofs.ListLemmas.{word_tells_form, lists_filled}
use Rattle.image_format.proofs.laws.list_law.Goals as goal

pub returns-clause-form : goal.returns-clause-form
returns-clause-form c = word_tells_form

pub returns-clause-filled : goal.returns-clause-filled
returns-clause-filled c = lists_filled

pub returns-clause-bits : goal.returns-clause-bits
returns-clause-bits c = block_has_bits

pub returns-clause-ascends : goal.returns-clause-ascends
returns-clause-ascends c = block_ascends
