use Rattle.std.proofs.Common.{◌≡◌, ◌<◌, ◌≤◌, ℕ, Bool, [], sym, ap, subst, ◌∙◌, arith}
use Rattle.tree_read.specs.Nodes.{level_of}
use Rattle.tree_read.specs.Trees.{pairs_below, tree_pairs, IsNode}
use Rattle.tree_read.specs.Keys.{Ascends, AllReadable, seen_by}
use Rattle.tree_read.proofs.PlaceLemmas.{leads-length, leads-root, leads-node, root_pairs, step-size}
use Rattle.compaction_steps.specs.Ways.{IsWay, IsWayApart, IsWayBelow}
use Rattle.compaction_steps.proofs.WayLemmas.{way_none, way_tree}
use Rattle.compaction_steps.proofs.ways.way_of.Goals as goal

pub returns-then-not-valid-clause-way : goal.returns-then-not-valid-clause-way
returns-then-not-valid-clause-way g c =
    let key = g.K.KeyOrder in
    let m = g.F.Frozen.records c.args.frozen.now in
    let P = IsWayApart g.row.OFFSET_BITS c.args.buffer key.order key.read m c.args.root in
    let seen = seen_by key.read key.order (key.sought c.args.key.now) m in
    let ps = tree_pairs m c.args.root in
    subst (λ (n : ℕ). IsWay P seen ps n c.no_way.result.last c.no_way.result.found) (sym c.no_way.ensures.pairs)
    (subst (λ (k : ℕ). IsWay P seen ps 0 k c.no_way.result.found) (sym c.no_way.ensures.last)
    (subst (λ (b : Bool). IsWay P seen ps 0 0 b) (sym c.no_way.ensures.found) (way_none P seen ps)))

pub read_head-level-requires : goal.read_head-level-requires
read_head-level-requires g c =
    let m = g.F.Frozen.records c.args.frozen.now in
    let root = c.args.root in
    let some : 0 < root = omega arith in
    let tree = c.requires.tree.node some in
    let size = step-size m root [] root (leads-root m root some tree) in
    omega arith

pub way_below-requires : goal.way_below-requires
way_below-requires g c =
    let records = g.F.Frozen.records in
    let key = g.K.KeyOrder in
    let m = records c.args.frozen.now in
    let root = c.args.root in
    let some : 0 < root = omega arith in
    let tree = c.requires.tree.node some in
    let level = c.read_head-level.result.level in
    let is : level ≡ level_of (m root) = c.read_head-level.ensures.level in
    let same = c.read_head-level.ensures.same in
    let all = root_pairs m root some tree in (
      omega arith,
      (
        subst (λ (f : g.row.F.Denot). IsNode (records f) 1 level root) (sym same) (subst (λ l. IsNode m 1 l root) (sym is) (leads-node m root [] root (leads-root m root some tree))),
        (
          subst (λ (f : g.row.F.Denot). Ascends key.order key.read (records f) (pairs_below (records f) level root)) (sym same)
              (subst (λ l. Ascends key.order key.read m (pairs_below m l root)) (sym is) (subst (Ascends key.order key.read m) all c.requires.tree.ascends)),
          (
            subst (λ (f : g.row.F.Denot). AllReadable key.can_read (records f) (pairs_below (records f) level root)) (sym same)
                (subst (λ l. AllReadable key.can_read m (pairs_below m l root)) (sym is) (subst (AllReadable key.can_read m) all c.requires.readable)),
            c.requires.some,
          ),
        ),
      ),
    )

pub returns-clause-way : goal.returns-clause-way
returns-clause-way g c =
    let records = g.F.Frozen.records in
    let key = g.K.KeyOrder in
    let m = records c.args.frozen.now in
    let root = c.args.root in
    let some : 0 < root = omega arith in
    let tree = c.requires.tree.node some in
    let level = c.read_head-level.result.level in
    let is : level ≡ level_of (m root) = c.read_head-level.ensures.level in
    let same = c.read_head-level.ensures.same in
    let s = key.sought c.args.key.now in
    let leads = leads-root m root some tree in
    let few : level ≤ 7 = (let most = leads-length m root [] root leads in omega arith) in
    let count = c.way_below.result.pairs in
    let last = c.way_below.result.last in
    let found = c.way_below.result.found in
    let way : IsWay (IsWayBelow g.row.OFFSET_BITS c.args.buffer key.order key.read m level root) (seen_by key.read key.order s m) (pairs_below m level root) count last found =
    subst (λ (f : g.row.F.Denot). IsWay (IsWayBelow g.row.OFFSET_BITS c.args.buffer key.order key.read (records f) level root) (seen_by key.read key.order s (records f)) (pairs_below (records f) level root)
    count last found) same c.way_below.ensures.way in
    way_tree key.order g.met.K.KeyOrder.total key.read s g.row.OFFSET_BITS c.args.buffer m root level some tree (subst (λ l. IsNode m 1 l root) (sym is) (leads-node m root [] root leads)) few
    (root_pairs m root some tree ∙ ap (λ (l : ℕ). pairs_below m l root) (sym is)) count last found way
