use Rattle.std.proofs.Common.{◌≡◌, ◌<◌, ℕ, sym, ap, subst, ◌∙◌, arith, []}
use Rattle.std.specs.Option.{option_map}
use Rattle.tree_read.specs.Nodes.{level_of}
use Rattle.tree_read.specs.Trees.{pairs_below, tree_pairs, IsNode}
use Rattle.tree_read.specs.Keys.{Ascends, AllReadable, seen_by}
use Rattle.tree_read.specs.Pairs.{lookup_pair}
use Rattle.tree_read.proofs.PairLemmas.{lookup-of_pair}
use Rattle.tree_read.proofs.PlaceLemmas.{leads-root, leads-node, root_pairs, step-size}
use Rattle.tree_read.proofs.finding.find.Goals as goal

pub read_head-level-requires : goal.read_head-level-requires
read_head-level-requires g c =
    let records = g.F.Frozen.records in
    let key = g.K.KeyOrder in
    let m = records c.args.frozen.now in
    let root = c.args.root in
    let some : 0 < root = omega arith in
    let tree = c.requires.tree.node some in
    let size = step-size m root [] root (leads-root m root some tree) in
    omega arith

pub find_below-requires : goal.find_below-requires
find_below-requires g c =
    let records = g.F.Frozen.records in
    let key = g.K.KeyOrder in
    let m = records c.args.frozen.now in
    let root = c.args.root in
    let some : 0 < root = omega arith in
    let tree = c.requires.tree.node some in
    let level = c.read_head-level.result.level in
    let is : level ≡ level_of (m root) = c.read_head-level.ensures.level in
    let same = c.read_head-level.ensures.same in
    let all = root_pairs m root some tree in (
      omega arith,
      (
        subst (λ (f : g.row.F.Denot). IsNode (records f) 1 level root) (sym same) (subst (λ l. IsNode m 1 l root) (sym is) (leads-node m root [] root (leads-root m root some tree))),
        (
          subst (λ (f : g.row.F.Denot). Ascends key.order key.read (records f) (pairs_below (records f) level root)) (sym same)
              (subst (λ l. Ascends key.order key.read m (pairs_below m l root)) (sym is) (subst (Ascends key.order key.read m) all c.requires.tree.ascends)),
          subst (λ (f : g.row.F.Denot). AllReadable key.can_read (records f) (pairs_below (records f) level root)) (sym same)
              (subst (λ l. AllReadable key.can_read m (pairs_below m l root)) (sym is) (subst (AllReadable key.can_read m) all c.requires.readable)),
        ),
      ),
    )

pub returns-clause-pair : goal.returns-clause-pair
returns-clause-pair g c =
    let records = g.F.Frozen.records in
    let key = g.K.KeyOrder in
    let m = records c.args.frozen.now in
    let root = c.args.root in
    let some : 0 < root = omega arith in
    let tree = c.requires.tree.node some in
    let level = c.read_head-level.result.level in
    let is : level ≡ level_of (m root) = c.read_head-level.ensures.level in
    let same = c.read_head-level.ensures.same in
    let all = root_pairs m root some tree in
    let seen = seen_by key.read key.order (key.sought c.args.key.now) m in
    let pair : c.find_below.new.pair ≡ lookup_pair seen (tree_pairs m root) =
    c.find_below.ensures.pair
    ∙ ap (λ (f : g.row.F.Denot). lookup_pair (seen_by key.read key.order (key.sought c.args.key.now) (records f)) (pairs_below (records f) level root)) same
    ∙ ap (λ l. lookup_pair seen (pairs_below m l root)) is ∙ ap (lookup_pair seen) (sym all) in
    pair

pub returns-clause-value : goal.returns-clause-value
returns-clause-value g c =
    let records = g.F.Frozen.records in
    let key = g.K.KeyOrder in
    let m = records c.args.frozen.now in
    let root = c.args.root in
    let some : 0 < root = omega arith in
    let tree = c.requires.tree.node some in
    let level = c.read_head-level.result.level in
    let is : level ≡ level_of (m root) = c.read_head-level.ensures.level in
    let same = c.read_head-level.ensures.same in
    let all = root_pairs m root some tree in
    let seen = seen_by key.read key.order (key.sought c.args.key.now) m in
    let pair : c.find_below.new.pair ≡ lookup_pair seen (tree_pairs m root) =
    c.find_below.ensures.pair
    ∙ ap (λ (f : g.row.F.Denot). lookup_pair (seen_by key.read key.order (key.sought c.args.key.now) (records f)) (pairs_below (records f) level root)) same
    ∙ ap (λ l. lookup_pair seen (pairs_below m l root)) is ∙ ap (lookup_pair seen) (sym all) in
    ap (option_map (λ (p : ℕ × ℕ). p.1)) pair ∙ sym (lookup-of_pair seen (tree_pairs m root))
