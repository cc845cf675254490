use Rattle.image_format.specs.ProofsForImages.{trees_there, attr_present}
use Rattle.image_format.proofs.laws.there_law.Goals as goal

pub returns-clause-forms : goal.returns-clause-forms
returns-clause-forms c = λ kind type m documents dictionary forms. trees_there type m kind documents dictionary forms

pub returns-clause-image : goal.returns-clause-image
returns-clause-image c = attr_present
