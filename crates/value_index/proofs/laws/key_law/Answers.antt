use Rattle.value_index.proofs.KeyLemmas.{key_is_read, found_is_key, value_has_key}
use Rattle.value_index.proofs.laws.key_law.Goals as goal

pub returns-clause-read : goal.returns-clause-read
returns-clause-read c = key_is_read

pub returns-clause-found : goal.returns-clause-found
returns-clause-found c = found_is_key

pub returns-clause-there : goal.returns-clause-there
returns-clause-there c = value_has_key
