use Rattle.std.proofs.Common.{◌≡◌, ◌+◌, ◌++◌, ◌∷◌, suc, arith, refl, ap, subst, ◌∙◌, get_or, drop, map}
use Rattle.std.specs.List.{zip, flat_map}
use Rattle.tree_changes.specs.Merges.{Change, merged, pair_of}
use Rattle.tree_changes.specs.Layers.{seen_change}
use Rattle.tree_changes.specs.declared.change_below.Change as given
use Rattle.tree_changes.proofs.LayerLemmas.{on_ok}
use Rattle.tree_changes.proofs.MergeLeafLemmas.{leaf-step, leaf-end, zip-at, zip-past, rest-is}
use Rattle.tree_changes.proofs.change_below.change_leaf.Goals as goal

pub loop-slot-preserved : goal.loop-slot-preserved
loop-slot-preserved g c =
    let key = g.K.KeyOrder in
    let m = g.F.Frozen.records c.args.frozen.now in
    let list = c.args.changes.now in
    let f : given.Change g.row.K.Denot → Change = λ change. seen_change key.read key.order (λ (change : given.Change g.row.K.Denot). key.sought change.key) (λ (change : given.Change g.row.K.Denot). change.pair) m change in
    let ks = c.args.keys.now in
    let vs = c.args.values.now in
    let slot = c.loop-slot.slot in
    let pairs = zip ks vs in
    let row = c.loop-slot.row in
    let next = c.change_slot.new.row in
    let old = c.args.row.now in
    let step : zip next.keys.items next.nodes.items ++ merged (drop c.in_ok-at.at (map f list)) (drop (suc slot) pairs)
    ≡ zip row.keys.items row.nodes.items ++ merged (drop c.loop-slot.at (map f list)) ((get_or ks slot 0, get_or vs slot 0) ∷ drop (suc slot) pairs) =
    subst (λ (st : g.row.F.Denot). zip next.keys.items next.nodes.items ++ merged (drop c.in_ok-at.at (map (λ change. seen_change key.read key.order (λ (change : given.Change g.row.K.Denot). key.sought change.key) (λ (change : given.Change g.row.K.Denot). change.pair) (g.F.Frozen.records st) change) list)) (drop (suc slot) pairs)
    ≡ zip row.keys.items row.nodes.items ++ merged (drop c.loop-slot.at (map (λ change. seen_change key.read key.order (λ (change : given.Change g.row.K.Denot). key.sought change.key) (λ (change : given.Change g.row.K.Denot). change.pair) (g.F.Frozen.records st) change) list)) ((get_or ks slot 0, get_or vs slot 0) ∷ drop (suc slot) pairs))
    c.loop-slot.invariant.same (c.in_ok-at.ensures.done (drop (suc slot) pairs)) in
    record {
      same = c.change_slot.ensures.same ∙ c.loop-slot.invariant.same;
      even = c.in_ok-at.ensures.row;
      within = c.in_ok-at.ensures.within;
      done = leaf-step (drop c.loop-slot.at (map f list)) (drop c.in_ok-at.at (map f list)) pairs slot (slot + 1) (get_or ks slot 0, get_or vs slot 0)
          (zip row.keys.items row.nodes.items) (zip next.keys.items next.nodes.items) (zip old.keys.items old.nodes.items ++ merged (map f list) pairs)
          (omega arith) (zip-at ks vs slot c.loop-slot-test.true c.requires.even) step c.loop-slot.invariant.done;
    }

pub returns-clause-pairs : goal.returns-clause-pairs
returns-clause-pairs g c =
    let key = g.K.KeyOrder in
    let m = g.F.Frozen.records c.args.frozen.now in
    let list = c.args.changes.now in
    let f : given.Change g.row.K.Denot → Change = λ change. seen_change key.read key.order (λ (change : given.Change g.row.K.Denot). key.sought change.key) (λ (change : given.Change g.row.K.Denot). change.pair) m change in
    let ks = c.args.keys.now in
    let vs = c.args.values.now in
    let row = c.loop-slot.row in
    let next = c.push_all.new.row in
    let old = c.args.row.now in
    on_ok c.push_all.result
    (λ pairs. leaf-end f (λ (change : given.Change g.row.K.Denot). change.pair) (λ change. refl) list c.loop-slot.at (drop c.loop-slot.slot (zip ks vs))
    (zip row.keys.items row.nodes.items) (zip next.keys.items next.nodes.items) (zip old.keys.items old.nodes.items ++ merged (map f list) (zip ks vs))
    (zip-past ks vs c.loop-slot.slot c.loop-slot-test.false) (pairs ∙ ap (λ cs. zip row.keys.items row.nodes.items ++ flat_map (λ (change : given.Change g.row.K.Denot). pair_of change.pair) cs) (rest-is list c.loop-slot.at)) c.loop-slot.invariant.done)
    c.push_all.ensures.pairs
