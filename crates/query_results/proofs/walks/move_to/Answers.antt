use Rattle.query_results.proofs.walks.move_to.Goals as goal

pub returns-clause-walk : goal.returns-clause-walk
returns-clause-walk g c = rw c.number-number.ensures.number c.move_cursor.ensures.before
