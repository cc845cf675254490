use Rattle.unique_store.proofs.RecordLemmas.{text_few}
use Rattle.unique_store.proofs.adding.add_text.Goals as goal

pub returns-then-bytes-le120-clause-short : goal.returns-then-bytes-le120-clause-short
returns-then-bytes-le120-clause-short g c = text_few c.args.bytes.now c.requires.few

pub returns-else-bytes-le120-clause-short : goal.returns-else-bytes-le120-clause-short
returns-else-bytes-le120-clause-short g c = text_few c.args.bytes.now c.requires.few
