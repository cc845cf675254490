use Rattle.std.proofs.Common.{◌∙◌, sym, ap, nat_eq, le-ltb, length}
use Rattle.index_model.proofs.DocLemmas.{at_place, past_place, read_place}
use Rattle.index_model.proofs.gathered.is_at.Goals as goal

pub returns-then-place-list : goal.returns-then-place-list
returns-then-place-list c =
    c.eq.ensures
    ∙ (ap (λ y. nat_eq y c.args.doc) (read_place c.args.list.now c.args.place c.index-list-place.result c.if-place-list.true c.index-list-place.is)
    ∙ at_place c.args.list.now c.args.doc c.args.place c.requires.ascends c.requires.place c.if-place-list.true)

pub returns-else-place-list : goal.returns-else-place-list
returns-else-place-list c =
    le-ltb c.args.place (length c.args.list.now) c.if-place-list.false
    ∙ sym (past_place c.args.list.now c.args.doc c.args.place c.requires.ascends c.requires.place c.if-place-list.false)
