use Rattle.attr_run.proofs.RefusalLemmas.{queries_are_refused}
use Rattle.attr_run.proofs.SettingsLemmas.{runs_are_asked}
use Rattle.attr_run.proofs.laws.settings_law.Goals as goal

pub returns-clause-asked : goal.returns-clause-asked
returns-clause-asked c = runs_are_asked c.settings_law.ensures c.grammar_law.ensures.reads

pub returns-clause-refused : goal.returns-clause-refused
returns-clause-refused c = queries_are_refused c.grammar_law.ensures.reads c.grammar_law.ensures.once
