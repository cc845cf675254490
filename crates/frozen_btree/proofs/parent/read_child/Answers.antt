use Rattle.std.proofs.Common.{ℕ, ◌-◌, ◌≤◌, List, length, get_or, sym, ap, subst, ◌∙◌, arith}
use Rattle.tree_read.specs.Nodes.{used_of, level_of, node_keys, node_values}
use Rattle.frozen_btree.proofs.ReadLemmas.{child-node, child-read}
use Rattle.tree_read.proofs.ReadLemmas.{node-size, node-room, node-level}
use Rattle.frozen_btree.proofs.parent.read_child.Goals as goal

pub overflow_cast-deref : goal.overflow_cast-deref
overflow_cast-deref g c =
    let m = g.F.Frozen.records c.args.frozen.now in
    let slots = c.args.slots.now in
    let node = child-node m slots.level slots.keys.items slots.values.items c.args.place c.requires.inner c.requires.parent c.requires.place in
    let size = node-size m 8 (slots.level - 1) (get_or slots.values.items c.args.place 0) node in
    let small = g.met.F.Frozen.references c.args.frozen.now (get_or slots.values.items c.args.place 0) (omega arith) in
    let is = ap (λ (vs : List ℕ). get_or vs c.args.place 0) c.deref.ensures.0 in
    omega arith

pub read_node-requires : goal.read_node-requires
read_node-requires g c = (
  omega arith,
  (
    (let m = g.F.Frozen.records c.args.frozen.now in
        let slots = c.args.slots.now in
        let node = child-node m slots.level slots.keys.items slots.values.items c.args.place c.requires.inner c.requires.parent c.requires.place in
        let is = c.from_raw-child.ensures ∙ ap (λ (vs : List ℕ). get_or vs c.args.place 0) c.deref.ensures.0 in
        ap (λ (r : ℕ). length (m r)) is ∙ node-size m 8 (slots.level - 1) (get_or slots.values.items c.args.place 0) node),
    ((let m = g.F.Frozen.records c.args.frozen.now in
        let slots = c.args.slots.now in
        let node = child-node m slots.level slots.keys.items slots.values.items c.args.place c.requires.inner c.requires.parent c.requires.place in
        let is = c.from_raw-child.ensures ∙ ap (λ (vs : List ℕ). get_or vs c.args.place 0) c.deref.ensures.0 in
        subst (λ (r : ℕ). used_of (m r) ≤ 16) (sym is) (node-room m 8 (slots.level - 1) (get_or slots.values.items c.args.place 0) node))),
  ),
)

pub returns-clause-level : goal.returns-clause-level
returns-clause-level g c =
    let m = g.F.Frozen.records c.args.frozen.now in
    let slots = c.args.slots.now in
    let node = child-node m slots.level slots.keys.items slots.values.items c.args.place c.requires.inner c.requires.parent c.requires.place in
    let is = c.from_raw-child.ensures ∙ ap (λ (vs : List ℕ). get_or vs c.args.place 0) c.deref.ensures.0 in
    let level = c.read_node.ensures.level ∙ ap (λ (r : ℕ). level_of (m r)) is ∙ node-level m 8 (slots.level - 1) (get_or slots.values.items c.args.place 0) node in
    let inner = c.requires.inner in
    omega arith

pub returns-clause-child : goal.returns-clause-child
returns-clause-child g c =
    let m = g.F.Frozen.records c.args.frozen.now in
    let slots = c.args.slots.now in
    let node = child-node m slots.level slots.keys.items slots.values.items c.args.place c.requires.inner c.requires.parent c.requires.place in
    let is = c.from_raw-child.ensures ∙ ap (λ (vs : List ℕ). get_or vs c.args.place 0) c.deref.ensures.0 in
    child-read m (slots.level - 1) (get_or slots.values.items c.args.place 0) node c.read_node.result.level c.read_node.result.keys.items c.read_node.result.values.items
    (c.read_node.ensures.level ∙ ap (λ (r : ℕ). level_of (m r)) is)
    (c.read_node.ensures.keys ∙ ap (λ (r : ℕ). node_keys (m r)) is)
    (c.read_node.ensures.values ∙ ap (λ (r : ℕ). node_values (m r)) is)
