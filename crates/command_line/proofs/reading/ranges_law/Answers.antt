use Rattle.command_line.proofs.TextLemmas.{in_range, texts_given}
use Rattle.command_line.proofs.reading.ranges_law.Goals as goal

pub returns-clause-ranges : goal.returns-clause-ranges
returns-clause-ranges c = in_range

pub returns-clause-texts : goal.returns-clause-texts
returns-clause-texts c = texts_given
