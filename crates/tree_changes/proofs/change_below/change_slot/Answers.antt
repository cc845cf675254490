use Rattle.std.proofs.Common.{ℕ, ◌≡◌, ◌≢◌, ◌<◌, ◌+◌, ◌++◌, ◌∷◌, Some, suc, length, arith, sym, ap, subst, ◌∙◌, get_or, drop, map}
use Rattle.std.specs.List.{zip, slice_get}
use Rattle.std.specs.declared.cmp.Ordering.TheVariants.{Equal}
use Rattle.tree_changes.specs.Merges.{Change, merged}
use Rattle.tree_changes.specs.Layers.{seen_change}
use Rattle.tree_changes.specs.declared.change_below.Change as given
use Rattle.tree_changes.proofs.MergeLemmas.{change-at}
use Rattle.tree_changes.proofs.LayerLemmas.{pushed-pairs}
use Rattle.tree_changes.proofs.MergeLeafLemmas.{leaf-both, leaf-pair, above-first, slice_get-in}
use Rattle.tree_changes.proofs.change_below.change_slot.Goals as goal

pub returns-then-is_of-clause-done : goal.returns-then-is_of-clause-done
returns-then-is_of-clause-done g c =
    let key = g.K.KeyOrder in
    let m = g.F.Frozen.records c.args.frozen.now in
    let list = c.args.changes.now in
    let at = c.in_ok-at.at in
    let low : at < length list = c.is_of.ensures.there c.if-is_of.true in
    let f : given.Change g.row.K.Denot → Change = λ change. seen_change key.read key.order (λ (change : given.Change g.row.K.Denot). key.sought change.key) (λ (change : given.Change g.row.K.Denot). change.pair) m change in
    let d = c.index-changes-at.result in
    let there : given.Change g.row.K.Denot = get_or list at d in
    let equal : key.order (key.read m c.args.stored) (key.sought there.key) ≡ Equal =
    ap (λ (st : g.row.F.Denot). key.order (key.read (g.F.Frozen.records st) c.args.stored) (key.sought there.key)) (sym c.push_below.ensures.same)
    ∙ c.is_of.ensures.is c.if-is_of.true there (slice_get-in list at d low) in
    let row = c.push_below.new.row in
    let next = c.push_pair.new.row in
    let more : at + 1 ≡ suc at = omega arith in
    λ ps.
    subst (λ (k : ℕ). zip next.keys.items next.nodes.items ++ merged (drop k (map f list)) ps
    ≡ zip c.args.row.now.keys.items c.args.row.now.nodes.items ++ merged (drop c.args.first (map f list)) ((c.args.stored, c.args.value) ∷ ps)) (sym more)
    (leaf-both (drop at (map f list)) (drop (suc at) (map f list)) (f there) (c.args.stored, c.args.value) ps
    (zip row.keys.items row.nodes.items) (zip next.keys.items next.nodes.items)
    (zip c.args.row.now.keys.items c.args.row.now.nodes.items ++ merged (drop c.args.first (map f list)) ((c.args.stored, c.args.value) ∷ ps))
    (change-at f list at d low) equal c.in_ok-push_pair.ensures.pairs (c.in_ok-at.ensures.done c.args.value ps))

pub returns-clause-done : goal.returns-clause-done
returns-clause-done g c =
    let key = g.K.KeyOrder in
    let m = g.F.Frozen.records c.args.frozen.now in
    let list = c.args.changes.now in
    let at = c.in_ok-at.at in
    let f : given.Change g.row.K.Denot → Change = λ change. seen_change key.read key.order (λ (change : given.Change g.row.K.Denot). key.sought change.key) (λ (change : given.Change g.row.K.Denot). change.pair) m change in
    let row = c.push_below.new.row in
    let next = c.push_slot.new.row in
    let not_equal : (change : given.Change g.row.K.Denot) → slice_get list at ≡ Some change → (f change).compare c.args.stored ≢ Equal =
    (λ change is e. c.is_of.ensures.not c.if-is_of.false change is
    (ap (λ (st : g.row.F.Denot). key.order (key.read (g.F.Frozen.records st) c.args.stored) (key.sought change.key)) c.push_below.ensures.same ∙ e)) in
    λ ps. leaf-pair (drop at (map f list)) (c.args.stored, c.args.value) ps (zip row.keys.items row.nodes.items) (zip next.keys.items next.nodes.items)
    (zip c.args.row.now.keys.items c.args.row.now.nodes.items ++ merged (drop c.args.first (map f list)) ((c.args.stored, c.args.value) ∷ ps))
    (above-first f list at c.args.stored c.in_ok-at.ensures.past not_equal)
    (pushed-pairs row.keys.items row.nodes.items next.keys.items next.nodes.items c.args.stored c.args.value c.in_ok-at.ensures.row c.in_ok-push_slot.ensures.keys c.in_ok-push_slot.ensures.nodes)
    (c.in_ok-at.ensures.done c.args.value ps)
