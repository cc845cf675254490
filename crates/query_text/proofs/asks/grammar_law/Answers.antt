use Rattle.query_text.proofs.GrammarLemmas.{words_read, read_once, asks_one, read_back}
use Rattle.query_text.proofs.asks.grammar_law.Goals as goal

pub returns-clause-reads : goal.returns-clause-reads
returns-clause-reads c = λ words. (words_read words).total

pub returns-clause-once : goal.returns-clause-once
returns-clause-once c = λ words fields. read_once words (words_read words) fields

pub returns-clause-one : goal.returns-clause-one
returns-clause-one c = λ words fields. asks_one words (words_read words) fields

pub returns-clause-back : goal.returns-clause-back
returns-clause-back c = λ words fields. read_back words (words_read words) fields
