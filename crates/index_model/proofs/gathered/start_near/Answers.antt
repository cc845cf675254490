use Rattle.std.proofs.Common.{◌∙◌, ◌-◌, ◌<◌, arith, sym, subst, refl, length}
use Rattle.index_model.proofs.DocLemmas.{below_place, read_place, not_ge}
use Rattle.index_model.proofs.gathered.start_near.Goals as goal
use Rattle.index_model.proofs.gathered.start_near.Goals.{else-from-gt0-via-then-from-gt0+else-ge, else-from-gt0-via-else-from-gt0}

pub returns : goal.returns
returns c = elim c.else-from-gt0.branch [
  | else-from-gt0-via-then-from-gt0+else-ge w ↦
      let xs = c.args.list.now in
      let some : 0 < c.args.from = w.if-from-gt0.true in
      let inside : c.args.from - 1 < length xs = omega (arith, some, c.requires.within) in
      below_place xs c.args.doc c.args.from c.requires.ascends c.requires.within some
      (subst (λ y. y < c.args.doc) (read_place xs (c.args.from - 1) w.index-list-from.result inside w.index-list-from.is)
      (not_ge w.index-list-from.result c.args.doc _ refl (sym w.ge.ensures ∙ w.if-ge.false)))
  | else-from-gt0-via-else-from-gt0 w ↦
      record { within = c.requires.within; below = λ k lt. absurd (omega (arith, lt, w.if-from-gt0.false)) }
]
