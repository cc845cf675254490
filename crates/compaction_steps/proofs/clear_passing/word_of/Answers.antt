use Rattle.std.proofs.Common.{sym, ◌∙◌}
use Rattle.compaction_steps.proofs.TreeKeys.{entry_word, no_word}
use Rattle.compaction_steps.proofs.clear_passing.word_of.Goals as goal

pub returns-in-Some-clause-word : goal.returns-in-Some-clause-word
returns-in-Some-clause-word g c = entry_word _ c.args.value.now (g.F.Frozen.records c.args.frozen.now) c.args.root c.in-Some.entry (sym c.find.ensures.entry ∙ c.in-Some.is)

pub returns-in-None-clause-word : goal.returns-in-None-clause-word
returns-in-None-clause-word g c = no_word _ c.args.value.now (g.F.Frozen.records c.args.frozen.now) c.args.root (sym c.find.ensures.entry ∙ c.in-None.is)
