use Rattle.std.proofs.Common.{◌∙◌, ◌≤◌, sym, refl, subst}
use Rattle.index_model.proofs.DocLemmas.{stop_place, read_place, not_less}
use Rattle.index_model.proofs.gathered.place_near.Goals as goal

pub returns-else-lt : goal.returns-else-lt
returns-else-lt c =
    let xs = c.args.list.now in
    stop_place xs c.args.doc c.loop-place.place c.requires.ascends c.loop-place.invariant
    (subst (λ y. c.args.doc ≤ y) (read_place xs c.loop-place.place c.index-list-place.result c.loop-place-test.true c.index-list-place.is)
    (not_less c.index-list-place.result c.args.doc _ refl (sym c.lt.ensures ∙ c.if-lt.false)))
