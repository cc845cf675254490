use Rattle.std.proofs.Common.{◌≡◌, ◌+◌, ◌∷◌, suc, arith, sym, subst, refl, get_or, set, List}
use Rattle.tree_changes.specs.Layers.{OpensRows, OpensLast, HasFirst}
use Rattle.frozen_btree.specs.declared.rows.Row.{Row}
use Rattle.tree_changes.proofs.LayerLemmas.{pulled}
use Rattle.tree_changes.proofs.SpendLemmas.{reaches-same}
use Rattle.tree_changes.proofs.layers.+pulling.Goals as goal

pub pull-returns-clause-opens : goal.pull-returns-clause-opens
pull-returns-clause-opens g t c =
    let m = g.F.Frozen.records c.args.frozen.now in
    let all : c.args.rows.now ≡ c.in-Some.row.now ∷ c.in-Some.above.now = c.in-Some.ensures.cases.0 in
    let up = c.in_ok-found.ensures.opens in
    let some : HasFirst c.reach.new.rows = c.in_ok-found.ensures.found c.if-not-found.false in
    let row = c.in-Some.row.now in
    let row2 = c.open_last.new.row in
    let top = get_or c.reach.new.rows 0 c.index-above-0.result in
    let top2 = c.open_last.new.above in
    let last = subst (λ (f : g.row.F.Denot). OpensLast (g.F.Frozen.records f) c.args.level row.keys.items row.nodes.items top.keys.items top.nodes.items
    row2.keys.items row2.nodes.items top2.keys.items top2.nodes.items c.reach.new.replaced.items c.open_last.new.replaced.items)
    c.reach.ensures.same c.in_ok-open_last.ensures.opens in
    let next : c.args.level + 1 ≡ suc c.args.level = omega arith in
    subst (λ (rows : List Row). OpensRows m c.args.level rows (row2 ∷ set c.reach.new.rows 0 top2) c.args.replaced.now.items c.open_last.new.replaced.items) (sym all)
    (pulled m c.args.level (c.args.level + 1) next c.in-Some.row.now c.open_last.new.row (get_or c.reach.new.rows 0 c.index-above-0.result) c.open_last.new.above c.index-above-0.result
    c.in-Some.above.now c.reach.new.rows c.args.replaced.now.items c.reach.new.replaced.items c.open_last.new.replaced.items up some refl last)

pub reach-returns-clause-reaches : goal.reach-returns-clause-reaches
reach-returns-clause-reaches g t c = reaches-same c.args.rows.now
