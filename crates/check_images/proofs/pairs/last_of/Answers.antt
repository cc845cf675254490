use Rattle.std.proofs.Common.{sym}
use Rattle.check_images.proofs.TreePairLemmas.{last_is}
use Rattle.check_images.proofs.pairs.last_of.Goals as goal

pub returns-in-Some : goal.returns-in-Some
returns-in-Some c = record { last = sym (last_is c.args.pairs.now c.in-Some.pair.now c.in-Some.ensures.value) }
