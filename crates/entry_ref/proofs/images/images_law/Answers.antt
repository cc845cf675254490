use Rattle.entry_ref.proofs.Pairs.{references-pairs, pairs-same}
use Rattle.entry_ref.proofs.images.images_law.Goals as goal

pub returns : goal.returns
returns c = record { references = λ rs m root. references-pairs rs m; words = λ rs m root. pairs-same rs m }
