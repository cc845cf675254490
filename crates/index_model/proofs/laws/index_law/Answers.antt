use Rattle.index_model.proofs.ChangeLemmas.{has_items}
use Rattle.index_model.proofs.OfLemmas.{has_values, has_lists, is_index_of, only_index, empty_index}
use Rattle.index_model.proofs.laws.index_law.Goals as goal

pub returns-clause-all : goal.returns-clause-all
returns-clause-all c = λ kind column index lawful. (
  λ of. (of.formed.ascends, has_values column index of, has_lists column index of),
  λ has. is_index_of column index lawful.ascends has.0 has.1 has.2,
)

pub returns-clause-one : goal.returns-clause-one
returns-clause-one c = only_index

pub returns-clause-items : goal.returns-clause-items
returns-clause-items c = λ kind column doc index lawful of. has_items column index doc lawful.ascends of

pub returns-clause-empty : goal.returns-clause-empty
returns-clause-empty c = empty_index
