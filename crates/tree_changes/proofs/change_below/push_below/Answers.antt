use Rattle.std.proofs.Common.{ℕ, ◌≡◌, ◌<◌, ◌+◌, ◌++◌, ◌∷◌, suc, length, arith, sym, ap, subst, ◌∙◌, get_or, drop, map}
use Rattle.std.proofs.lemmas.List.{get_or_default}
use Rattle.std.proofs.lemmas.Option.{slice_get_past}
use Rattle.std.specs.List.{zip}
use Rattle.std.specs.declared.cmp.Ordering.TheVariants.{Greater}
use Rattle.tree_changes.specs.Merges.{Change, merged, pair_of}
use Rattle.tree_changes.specs.Layers.{seen_change}
use Rattle.tree_changes.specs.declared.change_below.Change as given
use Rattle.tree_changes.proofs.MergeLemmas.{change-at, below-step, none-no-some}
use Rattle.tree_changes.proofs.change_below.push_below.Goals as goal

pub loop-at-preserved : goal.loop-at-preserved
loop-at-preserved g c =
    let key = g.K.KeyOrder in
    let m = g.F.Frozen.records c.args.frozen.now in
    let list = c.args.changes.now in
    let at = c.loop-at.at in
    let low : at < length list = c.loop-at-test.true in
    let first = c.index-changes-at.result in
    let second = c.index-changes-at-in-Greater.result in
    let f : given.Change g.row.K.Denot → Change = λ change. seen_change key.read key.order (λ (change : given.Change g.row.K.Denot). key.sought change.key) (λ (change : given.Change g.row.K.Denot). change.pair) m change in
    let there : given.Change g.row.K.Denot = get_or list at first in
    let greater : key.order (key.read m c.args.stored) (key.sought there.key) ≡ Greater =
    ap (λ (st : g.row.F.Denot). key.order (key.read (g.F.Frozen.records st) c.args.stored) (key.sought there.key)) (sym c.loop-at.invariant.same)
    ∙ sym c.compare.ensures.answer ∙ c.in-Greater.is in
    let other : given.Change g.row.K.Denot = get_or list at second in
    let pair_is : other.pair ≡ there.pair = ap (λ (change : given.Change g.row.K.Denot). change.pair) (get_or_default list at second first low) in
    let row = c.loop-at.row in
    let next = c.push_pair.new.row in
    let pairs : zip next.keys.items next.nodes.items ≡ zip row.keys.items row.nodes.items ++ pair_of there.pair =
    c.in_ok-push_pair-in-Greater.ensures.pairs ∙ ap (λ pair. zip row.keys.items row.nodes.items ++ pair_of pair) pair_is in
    let more : at + 1 ≡ suc at = omega arith in
    record {
      same = c.compare.ensures.same ∙ c.loop-at.invariant.same;
      even = c.in_ok-push_pair-in-Greater.ensures.even;
      within = omega arith;
      done = λ value ps.
          subst (λ (k : ℕ). zip next.keys.items next.nodes.items ++ merged (drop k (map f list)) ((c.args.stored, value) ∷ ps)
          ≡ zip c.args.row.now.keys.items c.args.row.now.nodes.items ++ merged (drop c.args.first (map f list)) ((c.args.stored, value) ∷ ps)) (sym more)
          (below-step (drop at (map f list)) (drop (suc at) (map f list)) (f there) (c.args.stored, value) ps
          (zip row.keys.items row.nodes.items) (zip next.keys.items next.nodes.items)
          (zip c.args.row.now.keys.items c.args.row.now.nodes.items ++ merged (drop c.args.first (map f list)) ((c.args.stored, value) ∷ ps))
          (change-at f list at first low) greater pairs (c.loop-at.invariant.done value ps));
    }

pub returns-clause-past : goal.returns-clause-past
returns-clause-past g c = λ change is greater. none-no-some change (sym (slice_get_past c.args.changes.now c.loop-at.at c.loop-at-test.false) ∙ is)
