use Rattle.index_model.proofs.StayLemmas.{old_values_stay, new_values_stay, removed_is_gone}
use Rattle.index_model.proofs.UseLemmas.{keys-with_posting, keys-without_posting}
use Rattle.index_model.proofs.laws.value_law.Goals as goal

pub returns-clause-gone : goal.returns-clause-gone
returns-clause-gone c = λ kind column start doc new removed index value lawful.
    removed_is_gone column start doc new removed index value lawful.ascends

pub returns-clause-old : goal.returns-clause-old
returns-clause-old c = old_values_stay

pub returns-clause-new : goal.returns-clause-new
returns-clause-new c = λ kind column start doc new removed index value lawful.
    new_values_stay column start doc new removed index value lawful.ascends

pub returns-clause-adds : goal.returns-clause-adds
returns-clause-adds c = keys-with_posting

pub returns-clause-removes : goal.returns-clause-removes
returns-clause-removes c = keys-without_posting
