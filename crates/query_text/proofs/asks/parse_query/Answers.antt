use Rattle.query_text.proofs.GrammarLemmas.{says_query}
use Rattle.query_text.proofs.asks.parse_query.Goals as goal

pub returns-clause-grammar : goal.returns-clause-grammar
returns-clause-grammar c = says_query c.args.fields.now c.args.text.now _ c.utf8.text c.read_query.ensures
