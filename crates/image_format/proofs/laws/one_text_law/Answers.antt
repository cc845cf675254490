use Rattle.image_format.proofs.ExampleLemmas.{one_text_is_lawful, one_text_reads}
use Rattle.image_format.proofs.laws.one_text_law.Goals as goal

pub returns-clause-lawful : goal.returns-clause-lawful
returns-clause-lawful c = one_text_is_lawful

pub returns-clause-reads : goal.returns-clause-reads
returns-clause-reads c = one_text_reads
