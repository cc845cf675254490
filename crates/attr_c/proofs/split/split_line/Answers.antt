use Rattle.std.proofs.Common.{ap, ◌∙◌, ◌∷◌}
use Rattle.std.proofs.lemmas.List.{take_rest}
use Rattle.feed_reader.proofs.LinesLemmas.{first_line, last_line}
use Rattle.attr_c.proofs.SplitLemmas.{alone_line, no_lines}
use Rattle.attr_c.proofs.split.split_line.Goals as goal

pub returns-in-Some-clause-lines : goal.returns-in-Some-clause-lines
returns-in-Some-clause-lines c = rw take_rest (first_line _ _ c.in-Some.ensures)

pub returns-in-Some-clause-alone : goal.returns-in-Some-clause-alone
returns-in-Some-clause-alone c = alone_line _ _ c.in-Some.ensures

pub returns-in-None-clause-lines : goal.returns-in-None-clause-lines
returns-in-None-clause-lines c = last_line _ c.in-None.ensures c.requires

pub returns-in-None-clause-alone : goal.returns-in-None-clause-alone
returns-in-None-clause-alone c = λ some. last_line _ c.in-None.ensures some ∙ ap (λ ls. c.args.bytes.now ∷ ls) no_lines
