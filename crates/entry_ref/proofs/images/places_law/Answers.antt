use Rattle.entry_ref.proofs.Apart.{one_place}
use Rattle.entry_ref.proofs.images.places_law.Goals as goal

pub returns : goal.returns
returns c = one_place
