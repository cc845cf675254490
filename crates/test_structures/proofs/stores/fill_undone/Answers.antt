use Rattle.std.proofs.Common.{◌≡◌, ◌∙◌, ap, arith}
use Rattle.store_api.proofs.UnitLemmas.{turns-undone}
use Rattle.test_structures.proofs.stores.fill_undone.Goals as goal

pub begin-requires : goal.begin-requires
begin-requires g c = c.requires.unit

pub fill-filled-requires : goal.fill-filled-requires
fill-filled-requires g c = record { unit = ap (λ l. l.unit) c.begin.ensures.ledger; width = c.requires.width }

pub undo-requires : goal.undo-requires
undo-requires g c = c.fill-filled.ensures.may.unit ∙ ap (λ l. l.unit) c.begin.ensures.ledger

pub returns-clause-unit : goal.returns-clause-unit
returns-clause-unit g c = c.undo.ensures.unit

pub returns-clause-turns : goal.returns-clause-turns
returns-clause-turns g c =
    turns-undone (g.S.Store.ledger c.args.store.now) (g.S.Store.ledger c.begin.new.self) (g.S.Store.ledger c.fill-filled.new.store) (g.S.Store.ledger c.undo.new.self)
    (g.S.Frozen.records c.args.store.now) (g.S.Frozen.records c.undo.new.self) (g.met.S.Store.settled c.args.store.now c.requires.unit) c.begin.ensures.ledger c.fill-filled.ensures.may c.undo.ensures

pub returns-clause-sealed : goal.returns-clause-sealed
returns-clause-sealed g c = c.undo.ensures.sealed ∙ c.fill-filled.ensures.may.sealed ∙ ap (λ l. l.sealed) c.begin.ensures.ledger

pub returns-clause-finished : goal.returns-clause-finished
returns-clause-finished g c = c.undo.ensures.finished ∙ c.fill-filled.ensures.may.finished ∙ ap (λ l. l.finished) c.begin.ensures.ledger
