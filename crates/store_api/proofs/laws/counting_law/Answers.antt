use Rattle.store_api.proofs.Counting.{few_entries, few_nodes}
use Rattle.store_api.proofs.laws.counting_law.Goals as goal

pub returns : goal.returns
returns c = record { entries = few_entries; nodes = few_nodes }
