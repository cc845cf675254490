use Rattle.image_format.proofs.TextLemmas.{long_reads, text_reads}
use Rattle.image_format.proofs.laws.value_law.Goals as goal

pub returns-clause-long : goal.returns-clause-long
returns-clause-long c = long_reads

pub returns-clause-text : goal.returns-clause-text
returns-clause-text c = text_reads
