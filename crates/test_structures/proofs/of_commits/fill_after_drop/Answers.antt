use Rattle.std.proofs.Common.{◌≡◌, ◌∙◌, [], ◌∷◌, ap, refl, arith}
use Rattle.store_api.specs.Parts.{entry}
use Rattle.store_api.proofs.PartLemmas.{all-owns}
use Rattle.test_structures.proofs.Roots.{none-new, begun-all}
use Rattle.test_structures.proofs.of_commits.fill_after_drop.Goals as goal

pub make_root-requires : goal.make_root-requires
make_root-requires g c = (omega arith, (c.requires.new.unit, (c.requires.width, none-new (g.S.Store.ledger c.args.store.now) (g.S.Frozen.records c.args.store.now) c.requires.new)))

pub commit_root-requires : goal.commit_root-requires
commit_root-requires g c = (omega arith, (c.in_ok-root.ensures.unit, (c.in_ok-root.ensures.owns, c.in_ok-root.ensures.apart)))

pub begin-requires : goal.begin-requires
begin-requires g c = c.commit_root.ensures.unit

pub drop_one-requires : goal.drop_one-requires
drop_one-requires g c =
    let old = c.commit_root.new.store in
    let new = c.begin.new.self in
    let parts = entry c.in_ok-root.root ∷ [] in (
      omega arith,
      (
        ap (λ l. l.unit) c.begin.ensures.ledger,
        all-owns (g.S.Store.ledger new) (g.S.Frozen.records new) parts
            (begun-all (g.S.Store.ledger old) (g.S.Store.ledger new) (g.S.Frozen.records old) (g.S.Frozen.records new) parts c.begin.ensures.ledger c.begin.ensures.records c.commit_root.ensures.owns),
      ),
    )

pub fill-dropped-requires-clause-unit : goal.fill-dropped-requires-clause-unit
fill-dropped-requires-clause-unit g c = c.drop_one.ensures.may.unit ∙ ap (λ l. l.unit) c.begin.ensures.ledger

pub fill-dropped-requires-clause-width : goal.fill-dropped-requires-clause-width
fill-dropped-requires-clause-width g c = c.requires.width

pub undo-requires : goal.undo-requires
undo-requires g c = c.fill-dropped.ensures.may.unit ∙ c.drop_one.ensures.may.unit ∙ ap (λ l. l.unit) c.begin.ensures.ledger

pub fill_undone-requires-clause-unit : goal.fill_undone-requires-clause-unit
fill_undone-requires-clause-unit g c = c.undo.ensures.unit

pub fill_undone-requires-clause-width : goal.fill_undone-requires-clause-width
fill_undone-requires-clause-width g c = c.requires.width
