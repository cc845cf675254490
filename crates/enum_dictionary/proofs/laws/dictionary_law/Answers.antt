use Rattle.enum_dictionary.proofs.DictionaryLemmas.{dictionary_nothing, dictionary_stays}
use Rattle.enum_dictionary.proofs.laws.dictionary_law.Goals as goal

pub returns-clause-nothing : goal.returns-clause-nothing
returns-clause-nothing c = dictionary_nothing

pub returns-clause-stays : goal.returns-clause-stays
returns-clause-stays c = dictionary_stays
