use Rattle.std.proofs.Common.{◌≡◌, ◌<◌, ◌-◌, ◌^◌, ℕ, suc, List, length, get_or, sym, ap, subst, ◌∙◌, arith}
use Rattle.std.specs.List.{AllByRecursion}
use Rattle.tree_read.specs.Nodes.{level_of, node_keys, node_values}
use Rattle.tree_read.specs.Trees.{IsNode}
use Rattle.tree_read.proofs.TreeLemmas.{IsNode-form}
use Rattle.tree_read.proofs.ChildLemmas.{keys-length}
use Rattle.tree_read.proofs.ReadLemmas.{node-even, node-keys-all}
use Rattle.frozen_btree.proofs.CopyLemmas.{child-node}
use Rattle.frozen_btree.proofs.touch_below.step_at.Goals as goal

pub read_node-slots-requires : goal.read_node-slots-requires
read_node-slots-requires g c =
    let m = g.S.Frozen.records c.args.store.now in
    let form = IsNode-form m 1 (level_of (m c.args.node)) c.args.node c.requires.node in
    (omega arith, (form.size, form.room))

pub place_of-slot-requires-clause-some : goal.place_of-slot-requires-clause-some
place_of-slot-requires-clause-some g c =
    let m = g.S.Frozen.records c.args.store.now in
    let node = c.args.node in
    let form = IsNode-form m 1 (level_of (m node)) node c.requires.node in
    let filled = form.filled in
    let used = keys-length m 1 (level_of (m node)) node c.requires.node in
    let size : length c.deref.result.now ≡ length (node_keys (m node)) = ap length (c.deref.ensures.0 ∙ c.read_node-slots.ensures.keys) in
    omega arith

pub place_of-slot-requires-clause-readable : goal.place_of-slot-requires-clause-readable
place_of-slot-requires-clause-readable g c =
    let m = g.S.Frozen.records c.args.store.now in
    let node = c.args.node in
    let can = g.K.KeyOrder.can_read in
    let read = c.read_node-slots.ensures in
    let keys : c.deref.result.now ≡ node_keys (m node) = c.deref.ensures.0 ∙ read.keys in
    subst (λ f. AllByRecursion (can (g.S.Frozen.records f)) c.deref.result.now) (sym read.same)
    (subst (AllByRecursion (can m)) (sym keys) (node-keys-all m 1 (level_of (m node)) node c.requires.node (can m) c.requires.readable))

pub bounds-deref-slot : goal.bounds-deref-slot
bounds-deref-slot g c =
    let m = g.S.Frozen.records c.args.store.now in
    let node = c.args.node in
    let read = c.read_node-slots.ensures in
    let even = node-even m 1 (level_of (m node)) node c.requires.node in
    let within = c.place_of-slot.ensures.place.within in
    let keys : length c.deref.result.now ≡ length (node_keys (m node)) = ap length (c.deref.ensures.0 ∙ read.keys) in
    let values : length c.deref-2.result.now ≡ length (node_values (m node)) = ap length (c.deref-2.ensures.0 ∙ read.values) in
    omega arith

pub overflow_cast-result : goal.overflow_cast-result
overflow_cast-result g c =
    let s = c.args.store.now in
    let m = g.S.Frozen.records s in
    let node = c.args.node in
    let read = c.read_node-slots.ensures in
    let above = c.requires.above in
    let l = level_of (m node) - 1 in
    let up : level_of (m node) ≡ suc l = omega arith in
    let is : IsNode m 1 (suc l) node = subst (λ k. IsNode m 1 k node) up c.requires.node in
    let even = node-even m 1 (suc l) node is in
    let i = c.place_of-slot.result in
    let within = c.place_of-slot.ensures.place.within in
    let keys : length c.deref.result.now ≡ length (node_keys (m node)) = ap length (c.deref.ensures.0 ∙ read.keys) in
    let low : i < length (node_values (m node)) = omega arith in
    let child : get_or c.deref-2.result.now i 0 ≡ get_or (node_values (m node)) i 0 = ap (λ (xs : List ℕ). get_or xs i 0) (c.deref-2.ensures.0 ∙ read.values) in
    let size = (IsNode-form m 8 l (get_or (node_values (m node)) i 0) (child-node m 1 l node i is low)).size in
    let small : get_or (node_values (m node)) i 0 < 2 ^ 32 = g.met.S.Frozen.references s (get_or (node_values (m node)) i 0) (omega arith) in
    omega arith
