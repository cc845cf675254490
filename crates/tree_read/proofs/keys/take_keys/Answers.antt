use Rattle.std.proofs.Common.{◌≡◌, ◌<◌, ◌-◌, suc, ℕ, List, OnOk, arith, sym, ap, subst, ◌∙◌, []}
use Rattle.std.specs.List.{AllByRecursion}
use Rattle.std.specs.Map.{keys_of}
use Rattle.tree_read.specs.Nodes.{level_of}
use Rattle.tree_read.specs.Trees.{pairs_below, IsNode}
use Rattle.tree_read.proofs.PlaceLemmas.{leads-root, leads-node, root_pairs, step-size}
use Rattle.tree_read.proofs.keys.take_keys.Goals as goal

pub read_head-level-requires : goal.read_head-level-requires
read_head-level-requires g c =
    let m = g.F.Frozen.records c.args.frozen.now in
    let root = c.args.root in
    let some : 0 < root = omega arith in
    let size = step-size m root [] root (leads-root m root some (c.requires.tree some)) in
    omega arith

pub take_below-requires : goal.take_below-requires
take_below-requires g c =
    let records = g.F.Frozen.records in
    let m = records c.args.frozen.now in
    let root = c.args.root in
    let some : 0 < root = omega arith in
    let tree = c.requires.tree some in
    let level = suc (c.read_head-level.result.level - 1) in
    let is : level ≡ level_of (m root) = (let above = c.if-level-eq0.false in let read = c.read_head-level.ensures.level in omega arith) in
    let same = c.read_head-level.ensures.same in (
      omega arith,
      (
        subst (λ (f : g.row.F.Denot). IsNode (records f) 1 level root) (sym same) (subst (λ (l : ℕ). IsNode m 1 l root) (sym is) (leads-node m root [] root (leads-root m root some tree))),
        subst (λ (f : g.row.F.Denot). AllByRecursion (λ (p : ℕ × ℕ). g.T.TakesKeys.can_take p.0) (pairs_below (records f) level root)) (sym same)
            (subst (λ (l : ℕ). AllByRecursion (λ (p : ℕ × ℕ). g.T.TakesKeys.can_take p.0) (pairs_below m l root)) (sym is)
            (subst (λ (ps : List (ℕ × ℕ)). AllByRecursion (λ (p : ℕ × ℕ). g.T.TakesKeys.can_take p.0) ps) (root_pairs m root some tree) c.requires.keys)),
      ),
    )

pub returns-else-level-eq0-clause-takes : goal.returns-else-level-eq0-clause-takes
returns-else-level-eq0-clause-takes g c =
    let records = g.F.Frozen.records in
    let m = records c.args.frozen.now in
    let root = c.args.root in
    let some : 0 < root = omega arith in
    let level = suc (c.read_head-level.result.level - 1) in
    let is : level ≡ level_of (m root) = (let above = c.if-level-eq0.false in let read = c.read_head-level.ensures.level in omega arith) in
    let keys : keys_of (pairs_below (records c.read_head-level.new.frozen) level root) ≡ keys_of (pairs_below m (level_of (m root)) root) =
    ap (λ (f : g.row.F.Denot). keys_of (pairs_below (records f) level root)) c.read_head-level.ensures.same ∙ ap (λ (l : ℕ). keys_of (pairs_below m l root)) is in
    subst (λ (ks : List ℕ). OnOk c.take_below.result (g.T.TakesKeys.takes c.args.taker.now ks c.take_below.new.taker))
    (keys ∙ ap (λ (ps : List (ℕ × ℕ)). keys_of ps) (sym (root_pairs m root some (c.requires.tree some)))) c.take_below.ensures.takes
