use Rattle.attr_saver.proofs.ImageLemmas.{image_may_be_saved}
use Rattle.attr_saver.proofs.laws.image_save_law.Goals as goal

pub returns : goal.returns
returns c = image_may_be_saved
