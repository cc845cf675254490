use Rattle.enum_dictionary.proofs.FindLemmas.{finds_set, finds_rest}
use Rattle.enum_dictionary.proofs.laws.found_law.Goals as goal

pub returns-clause-set : goal.returns-clause-set
returns-clause-set c m n root next value pair is record_is reads keeps are = finds_set m n root next value is keeps pair record_is reads are

pub returns-clause-removed : goal.returns-clause-removed
returns-clause-removed c m n root next value is keeps are = finds_rest m n root next value is keeps are
