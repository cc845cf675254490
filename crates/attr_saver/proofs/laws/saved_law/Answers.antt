use Rattle.attr_saver.proofs.Wholes.{read_again, reads_saves, saves_differ}
use Rattle.attr_saver.proofs.laws.saved_law.Goals as goal

pub returns-clause-again : goal.returns-clause-again
returns-clause-again c = read_again

pub returns-clause-read : goal.returns-clause-read
returns-clause-read c = reads_saves

pub returns-clause-differ : goal.returns-clause-differ
returns-clause-differ c = saves_differ
