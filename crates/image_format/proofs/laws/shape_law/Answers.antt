use Rattle.image_format.proofs.ShapeLemmas.{shape_tells}
use Rattle.image_format.proofs.laws.shape_law.Goals as goal

pub returns : goal.returns
returns c = shape_tells
