use Rattle.store_api.proofs.UnitLemmas.{make-turns, make-refused, make-here, make-elsewhere}
use Rattle.store_api.proofs.parts.make_entry.Goals as goal

pub returns-clause-turns : goal.returns-clause-turns
returns-clause-turns g c = make-turns _ _ _ _ _ _ _ c.make.result c.make.ensures.makes

pub returns-clause-still : goal.returns-clause-still
returns-clause-still g c = make-refused g.row.OFFSET_BITS _ _ _ _ c.args.width c.args.words.now c.make.result c.make.ensures.refused c.make.ensures.left

pub returns-clause-one : goal.returns-clause-one
returns-clause-one g c = make-here _ _ _ _ _ _ _ c.make.result c.make.ensures.makes c.make.ensures.refused

pub returns-clause-others : goal.returns-clause-others
returns-clause-others g c = make-elsewhere _ _ _ _ _ _ _ c.make.result c.make.ensures.makes c.make.ensures.refused
