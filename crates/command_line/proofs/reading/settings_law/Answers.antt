use Rattle.command_line.proofs.LawfulLemmas.{settings_lawful}
use Rattle.command_line.proofs.reading.settings_law.Goals as goal

pub returns : goal.returns
returns c = settings_lawful
