use Rattle.attr_types.proofs.TableLemmas.{others_stay, put_is_there, remove_after_put}
use Rattle.attr_types.proofs.laws.document_law.Goals as goal

pub returns-clause-others : goal.returns-clause-others
returns-clause-others c = others_stay

pub returns-clause-put : goal.returns-clause-put
returns-clause-put c = λ fields. put_is_there

pub returns-clause-remove : goal.returns-clause-remove
returns-clause-remove c = remove_after_put
