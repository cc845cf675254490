use Rattle.std.proofs.Common.{◌≡◌, ◌<◌, length, ap, arith, inl, inr}
use Rattle.tree_read.specs.Nodes.{level_of, used_of, node_keys}
use Rattle.tree_read.proofs.TreeLemmas.{IsNode-form}
use Rattle.tree_read.proofs.ChildLemmas.{keys-length}
use Rattle.frozen_btree.proofs.insert_below.visit_inner.Goals as goal

pub overflow_sub-result : goal.overflow_sub-result
overflow_sub-result g c =
    let m = g.F.Frozen.records c.args.frozen.now in
    let node = c.args.node in
    let filled = (IsNode-form m 1 (level_of (m node)) node c.requires.node).filled in
    let now : used_of c.visit-spot.new.words ≡ used_of (m node) = ap used_of c.visit-spot.ensures.words in
    let is = c.used_in-used.ensures in
    omega arith

pub returns-then-spot-used-clause-place : goal.returns-then-spot-used-clause-place
returns-then-spot-used-clause-place g c =
    let m = g.F.Frozen.records c.args.frozen.now in
    let node = c.args.node in
    let size = keys-length m 1 (level_of (m node)) node c.requires.node in
    let now : used_of c.visit-spot.new.words ≡ used_of (m node) = ap used_of c.visit-spot.ensures.words in
    let is = c.used_in-used.ensures in
    let slot = c.visit-spot.ensures.slot in
    let test = c.if-spot-used.true in
    let low : c.visit-spot.result.slot < length (node_keys (m node)) = omega arith in
    record { within = low; before = slot.before; at = inl (slot.at low) }

pub returns-else-spot-used-clause-place : goal.returns-else-spot-used-clause-place
returns-else-spot-used-clause-place g c =
    let m = g.F.Frozen.records c.args.frozen.now in
    let node = c.args.node in
    let size = keys-length m 1 (level_of (m node)) node c.requires.node in
    let filled = (IsNode-form m 1 (level_of (m node)) node c.requires.node).filled in
    let now : used_of c.visit-spot.new.words ≡ used_of (m node) = ap used_of c.visit-spot.ensures.words in
    let is = c.used_in-used.ensures in
    let slot = c.visit-spot.ensures.slot in
    let test = c.if-spot-used.false in
    record {
      within = omega arith;
      before = λ j low. slot.before j (omega arith);
      at = inr (omega arith);
    }
