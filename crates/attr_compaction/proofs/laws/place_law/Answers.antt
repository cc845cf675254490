use Rattle.attr_compaction.proofs.PlaceLemmas.{keys_exact, next_above, places_ordered}
use Rattle.attr_compaction.proofs.laws.place_law.Goals as goal

pub returns-clause-order : goal.returns-clause-order
returns-clause-order c = places_ordered

pub returns-clause-exact : goal.returns-clause-exact
returns-clause-exact c = keys_exact

pub returns-clause-above : goal.returns-clause-above
returns-clause-above c = next_above
