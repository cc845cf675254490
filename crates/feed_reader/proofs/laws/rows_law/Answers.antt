use Rattle.feed_reader.proofs.RowLemmas.{refused_by_first, taken_without}
use Rattle.feed_reader.proofs.laws.rows_law.Goals as goal

pub returns-clause-refused : goal.returns-clause-refused
returns-clause-refused c = refused_by_first

pub returns-clause-taken : goal.returns-clause-taken
returns-clause-taken c = taken_without
