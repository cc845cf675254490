use Rattle.image_format.proofs.ExampleLemmas.{two_fields_are_lawful, two_fields_read}
use Rattle.image_format.proofs.laws.two_fields_law.Goals as goal

pub returns-clause-lawful : goal.returns-clause-lawful
returns-clause-lawful c = two_fields_are_lawful

pub returns-clause-reads : goal.returns-clause-reads
returns-clause-reads c = two_fields_read
