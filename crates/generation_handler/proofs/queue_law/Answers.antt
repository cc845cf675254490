use Rattle.std.proofs.Common.{refl}
use Rattle.generation_handler.proofs.QueueLemmas.{newest_of-append, renewed-append}
use Rattle.generation_handler.proofs.queue_law.Goals as goal

pub returns : goal.returns
returns c = record { oldest = λ oldest newer. refl; newest = newest_of-append; renewed = renewed-append }
