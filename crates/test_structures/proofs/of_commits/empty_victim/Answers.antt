use Rattle.std.proofs.Common.{◌≡◌, ◌∙◌, [], ap, refl, arith}
use Rattle.entry_ref.specs.References.{buffer_of}
use Rattle.store_api.specs.Ledgers.{is_this}
use Rattle.store_api.proofs.PartLemmas.{all-then}
use Rattle.test_structures.proofs.Roots.{none-new, same-all}
use Rattle.test_structures.proofs.of_commits.empty_victim.Goals as goal

pub fill_undone-first-requires-clause-unit : goal.fill_undone-first-requires-clause-unit
fill_undone-first-requires-clause-unit g c = c.requires.new.unit

pub fill_undone-first-requires-clause-width : goal.fill_undone-first-requires-clause-width
fill_undone-first-requires-clause-width g c = refl

pub seal_victim-victim-requires-clause-unit : goal.seal_victim-victim-requires-clause-unit
seal_victim-victim-requires-clause-unit g c = c.fill_undone-first.ensures.unit

pub seal_victim-victim-requires-clause-none : goal.seal_victim-victim-requires-clause-none
seal_victim-victim-requires-clause-none g c = c.fill_undone-first.ensures.finished ∙ c.requires.new.finished

pub seal_victim-victim-requires-clause-owns : goal.seal_victim-victim-requires-clause-owns
seal_victim-victim-requires-clause-owns g c =
    let old = c.args.store.now in
    let new = c.fill_undone-first.new.store in
    all-then (g.S.Store.ledger old) (g.S.Store.ledger new) (g.S.Frozen.records old) (g.S.Frozen.records new) [] []
    (none-new (g.S.Store.ledger old) (g.S.Frozen.records old) c.requires.new) c.fill_undone-first.ensures.turns

pub make_root-requires : goal.make_root-requires
make_root-requires g c = (omega arith, (c.seal_victim-victim.ensures.unit, (refl, c.seal_victim-victim.ensures.owns)))

pub fill_undone-sealed-requires-clause-unit : goal.fill_undone-sealed-requires-clause-unit
fill_undone-sealed-requires-clause-unit g c = c.in_ok-root.ensures.unit

pub fill_undone-sealed-requires-clause-width : goal.fill_undone-sealed-requires-clause-width
fill_undone-sealed-requires-clause-width g c = refl

pub commit_root-requires : goal.commit_root-requires
commit_root-requires g c =
    let old = c.make_root.new.store in
    let new = c.fill_undone-sealed.new.store in
    let f = c.fill_undone-sealed.ensures in (
      omega arith,
      (
        f.unit,
        (
          same-all (g.S.Store.ledger old) (g.S.Store.ledger new) (g.S.Frozen.records old) (g.S.Frozen.records new) c.in_ok-root.root c.in_ok-root.ensures.owns f.turns,
          ap (λ o. is_this o (buffer_of g.row.OFFSET_BITS c.in_ok-root.root)) f.finished ∙ c.in_ok-root.ensures.apart,
        ),
      ),
    )

pub fill_undone-requires-clause-unit : goal.fill_undone-requires-clause-unit
fill_undone-requires-clause-unit g c = c.commit_root.ensures.unit

pub fill_undone-requires-clause-width : goal.fill_undone-requires-clause-width
fill_undone-requires-clause-width g c = refl
