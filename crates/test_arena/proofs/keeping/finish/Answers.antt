use Rattle.std.proofs.Common.{◌∙◌}
use Rattle.test_arena.proofs.KeepLemmas.{finish-keeps}
use Rattle.test_arena.proofs.keeping.finish.Goals as goal

pub finish-requires-clause-sealed : goal.finish-requires-clause-sealed
finish-requires-clause-sealed g c = c.requires.sealed c.in-Some.buffer c.in-Some.ensures.sealed

pub finish-requires-clause-none : goal.finish-requires-clause-none
finish-requires-clause-none g c = c.requires.finished ∙ c.in-Some.ensures.none

pub returns-in-Some : goal.returns-in-Some
returns-in-Some g c =
    finish-keeps (g.S.Store.ledger c.args.store.now) (g.S.Store.ledger c.finish.new.self) (g.S.Frozen.records c.args.store.now) (g.S.Frozen.records c.finish.new.self)
    c.args.keeping c.in-Some.buffer c.args.keeping.last c.requires c.finish.ensures.ledger c.finish.ensures.records c.in-Some.ensures.apart

pub returns-in-None : goal.returns-in-None
returns-in-None g c = c.requires
