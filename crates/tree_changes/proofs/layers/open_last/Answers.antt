use Rattle.std.proofs.Common.{ℕ, ◌≤◌, ◌∷◌, ◌++◌, [], length, sym, ap, subst, ◌∙◌, arith}
use Rattle.tree_read.specs.Nodes.{used_of}
use Rattle.tree_changes.proofs.LayerLemmas.{on_ok_both, opened, last-size, last-room}
use Rattle.tree_changes.proofs.layers.open_last.Goals as goal

pub overflow_cast-value : goal.overflow_cast-value
overflow_cast-value g c =
    let m = g.F.Frozen.records c.args.frozen.now in
    let above = c.args.above.now in
    let size = last-size m c.args.level above.keys.items above.nodes.items c.pop.new.self.items c.pop-2.new.self.items c.in-Some._key c.in-Some-pop.value
    c.requires.above c.in-Some.ensures.items c.in-Some-pop.ensures.items in
    let small = g.met.F.Frozen.references c.args.frozen.now c.in-Some-pop.value (omega arith) in
    omega arith

pub read_node-slots-requires : goal.read_node-slots-requires
read_node-slots-requires g c = (
  omega arith,
  (
    (let m = g.F.Frozen.records c.args.frozen.now in
        let above = c.args.above.now in
        let size = last-size m c.args.level above.keys.items above.nodes.items c.pop.new.self.items c.pop-2.new.self.items c.in-Some._key c.in-Some-pop.value
        c.requires.above c.in-Some.ensures.items c.in-Some-pop.ensures.items in
        ap (λ (r : ℕ). length (m r)) c.from_raw-child.ensures ∙ size),
    (let m = g.F.Frozen.records c.args.frozen.now in
        let above = c.args.above.now in
        let room = last-room m c.args.level above.keys.items above.nodes.items c.pop.new.self.items c.pop-2.new.self.items c.in-Some._key c.in-Some-pop.value
        c.requires.above c.in-Some.ensures.items c.in-Some-pop.ensures.items in
        subst (λ (r : ℕ). used_of (m r) ≤ 16) (sym c.from_raw-child.ensures) room),
  ),
)

pub returns-clause-opens : goal.returns-clause-opens
returns-clause-opens g c =
    let m = g.F.Frozen.records c.args.frozen.now in
    let above = c.args.above.now in
    let row = c.args.row.now in
    let after = c.put_before.new.row in
    let read = c.read_node-slots.result in
    on_ok_both c.put_before.result
    (λ keys nodes. opened m c.args.level above.keys.items above.nodes.items c.pop.new.self.items c.pop-2.new.self.items c.in-Some._key c.in-Some-pop.value
    c.requires.above c.in-Some.ensures.items c.in-Some-pop.ensures.items row.keys.items row.nodes.items c.args.replaced.now.items c.requires.hand
    c.from_raw-child.result read.keys.items read.values.items after.keys.items after.nodes.items c.push_node.new.nodes.items
    c.from_raw-child.ensures c.read_node-slots.ensures.keys c.read_node-slots.ensures.values keys nodes
    (c.in_ok-push_node.ensures.items ∙ ap (λ (q : ℕ). c.args.replaced.now.items ++ q ∷ []) c.raw.ensures))
    c.put_before.ensures.keys c.put_before.ensures.nodes
