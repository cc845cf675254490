use Rattle.std.proofs.Common.{◌∙◌, ap}
use Rattle.test_arena.proofs.KeepLemmas.{undo-keeps}
use Rattle.test_arena.proofs.keeping.fill_undone.Goals as goal

pub begin-requires : goal.begin-requires
begin-requires g c = c.requires.unit

pub fill-made-requires-clause-unit : goal.fill-made-requires-clause-unit
fill-made-requires-clause-unit g c = ap (λ l. l.unit) c.begin.ensures.ledger

pub fill-made-requires-clause-width : goal.fill-made-requires-clause-width
fill-made-requires-clause-width g c = c.width_of.ensures

pub undo-requires : goal.undo-requires
undo-requires g c = c.fill-made.ensures.may.unit ∙ ap (λ l. l.unit) c.begin.ensures.ledger

pub returns : goal.returns
returns g c =
    undo-keeps (g.S.Store.ledger c.args.store.now) (g.S.Store.ledger c.begin.new.self) (g.S.Store.ledger c.fill-made.new.store) (g.S.Store.ledger c.undo.new.self)
    (g.S.Frozen.records c.args.store.now) (g.S.Frozen.records c.undo.new.self) c.args.keeping c.requires
    (g.met.S.Store.settled c.args.store.now c.requires.unit) c.begin.ensures.ledger c.fill-made.ensures.may c.undo.ensures
