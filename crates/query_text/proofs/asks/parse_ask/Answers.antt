use Rattle.query_text.proofs.GrammarLemmas.{says_ask}
use Rattle.query_text.proofs.asks.parse_ask.Goals as goal

pub returns-clause-grammar : goal.returns-clause-grammar
returns-clause-grammar c = says_ask c.args.fields.now c.args.text.now _ c.utf8.text c.read_ask.ensures
