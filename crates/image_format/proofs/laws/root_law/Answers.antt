use Rattle.image_format.proofs.ImageLemmas.{attributes_lawful, image_lawful}
use Rattle.image_format.proofs.RootLemmas.{root_makes_image, root_has_words}
use Rattle.image_format.proofs.laws.root_law.Goals as goal

pub returns-clause-attributes : goal.returns-clause-attributes
returns-clause-attributes c = attributes_lawful

pub returns-clause-lawful : goal.returns-clause-lawful
returns-clause-lawful c = image_lawful

pub returns-clause-made : goal.returns-clause-made
returns-clause-made c = root_makes_image

pub returns-clause-words : goal.returns-clause-words
returns-clause-words c = root_has_words
