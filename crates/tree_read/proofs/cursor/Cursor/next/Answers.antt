use Rattle.std.proofs.Common.{◌≡◌, ◌≤◌, ◌+◌, suc, drop, ap, sym, subst, ◌∙◌, arith}
use Rattle.tree_read.specs.SearchPlaces.{CursorPlace, IsAt, HasPair, pairs_from, pairs_behind}
use Rattle.tree_read.proofs.PlaceLemmas.{next-slot, next-behind}
use Rattle.tree_read.proofs.cursor.Cursor.next.Goals as goal

pub returns-then-self-clause-pairs : goal.returns-then-self-clause-pairs
returns-then-self-clause-pairs g c =
    let m = g.F.Frozen.records c.args.frozen.now in
    let inside = c.self.inside in
    let at : CursorPlace = record { root = inside.root; path = inside.path; leaf = inside.leaf; slot = inside.slot; used = inside.used; words = inside.words } in
    let is : at ≡ c.args.self.now = c.self.view_is in
    next-slot m at (inside.slot + 1) (subst (IsAt m) (sym is) c.requires.at) (subst HasPair (sym is) c.requires.pair) (omega arith) c.if-self.true
    ∙ ap (λ p. drop 1 (pairs_from m p)) is

pub returns-else-self-clause-pairs : goal.returns-else-self-clause-pairs
returns-else-self-clause-pairs g c =
    let m = g.F.Frozen.records c.args.frozen.now in
    let inside = c.self.inside in
    let at : CursorPlace = record { root = inside.root; path = inside.path; leaf = inside.leaf; slot = inside.slot; used = inside.used; words = inside.words } in
    let is : at ≡ c.args.self.now = c.self.view_is in
    let past : inside.used ≤ suc inside.slot = (let test = c.if-self.false in omega arith) in
    c.next_leaf.ensures.pairs
    ∙ ap (λ (p : CursorPlace). pairs_behind m 0 p.path) (sym is)
    ∙ next-behind m at (subst (IsAt m) (sym is) c.requires.at) (subst HasPair (sym is) c.requires.pair) past
    ∙ ap (λ p. drop 1 (pairs_from m p)) is
