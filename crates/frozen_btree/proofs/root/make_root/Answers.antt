use Rattle.std.proofs.Common.{◌≡◌, ◌≢◌, ℕ, suc, ◌-◌, ◌<◌, List, length, get_or, sym, ap, subst, ◌∙◌, arith}
use Rattle.list_lemmas.proofs.Tests.{zero_from_test, above_zero_from_test}
use Rattle.tree_read.specs.Trees.{IsNode}
use Rattle.tree_read.specs.Slots.{IsInHand}
use Rattle.tree_read.proofs.ReadLemmas.{node-size}
use Rattle.frozen_btree.proofs.MakeRootLemmas.{root-none, root-only, root-made, only-node, leaf_from, many_from, ref_some}
use Rattle.frozen_btree.specs.Changes.{MakesRoot}
use Rattle.frozen_btree.proofs.root.make_root.Goals as goal
use Rattle.frozen_btree.proofs.root.make_root.Goals.{else-slots-gt0-via-then-slots-gt0+else-len-eq1, else-slots-gt0-via-else-slots-gt0}

pub returns-then-is_empty-clause-root : goal.returns-then-is_empty-clause-root
returns-then-is_empty-clause-root g c =
    let slots = c.args.slots.now in
    let none = zero_from_test (length slots.keys.items) c.is_empty.result c.is_empty.ensures c.if-is_empty.true in
    root-none (g.S.Store.ledger c.args.store.now) (g.S.Frozen.records c.args.store.now) slots.level slots.keys.items slots.values.items c.from_raw.result c.from_raw.ensures
    (leaf_from slots.level (length slots.keys.items) none c.requires.some) none c.requires.hand

pub overflow_cast-deref : goal.overflow_cast-deref
overflow_cast-deref g c =
    let m = g.S.Frozen.records c.args.store.now in
    let slots = c.args.slots.now in
    let l = slots.level - 1 in
    let above = c.if-slots-gt0.true in
    let up : slots.level ≡ suc l = omega arith in
    let one : length slots.keys.items ≡ 1 = omega arith in
    let hand = subst (λ n. IsInHand m n slots.keys.items slots.values.items) up c.requires.hand in
    let size = node-size m 8 l (get_or slots.values.items 0 0) (only-node m l slots.keys.items slots.values.items one hand) in
    let small = g.met.S.Frozen.references c.args.store.now (get_or slots.values.items 0 0) (omega arith) in
    let is = ap (λ (vs : List ℕ). get_or vs 0 0) c.deref.ensures.0 in
    omega arith

pub returns-then-len-eq1-clause-root : goal.returns-then-len-eq1-clause-root
returns-then-len-eq1-clause-root g c =
    let m = g.S.Frozen.records c.args.store.now in
    let ledger = g.S.Store.ledger c.args.store.now in
    let slots = c.args.slots.now in
    let root = c.from_raw-then-len-eq1.result in
    let l = slots.level - 1 in
    let above = c.if-slots-gt0.true in
    let low = c.requires.low in
    let up : slots.level ≡ suc l = omega arith in
    let one : length slots.keys.items ≡ 1 = omega arith in
    let hand = subst (λ n. IsInHand m n slots.keys.items slots.values.items) up c.requires.hand in
    let is : root ≡ get_or slots.values.items 0 0 = c.from_raw-then-len-eq1.ensures ∙ ap (λ (vs : List ℕ). get_or vs 0 0) c.deref.ensures.0 in
    let node : IsNode m 8 l root = subst (IsNode m 8 l) (sym is) (only-node m l slots.keys.items slots.values.items one hand) in
    let size = node-size m 8 l root node in
    let some = ref_some g.row.OFFSET_BITS root (g.met.S.Store.placed c.args.store.now root (omega arith)).entry.first in
    subst (λ n. MakesRoot ledger ledger m m n slots.keys.items slots.values.items root) (sym up)
    (root-only ledger m l slots.keys.items slots.values.items root (omega arith) some is one hand)

pub returns-clause-root : goal.returns-clause-root
returns-clause-root g c =
    let slots = c.args.slots.now in
    let part = c.in_ok-part.part in
    let some = above_zero_from_test (length slots.keys.items) c.is_empty.result c.is_empty.ensures c.if-is_empty.false in
    let other : 0 < slots.level → length slots.keys.items ≢ 1 = elim c.else-slots-gt0.branch [
      | else-slots-gt0-via-then-slots-gt0+else-len-eq1 w ↦ (λ above e. let ne = w.if-len-eq1.false in absurd (omega arith))
      | else-slots-gt0-via-else-slots-gt0 w ↦ (λ above e. let leaf = w.if-slots-gt0.false in absurd (omega arith))
    ] in
    let ledger = g.S.Store.ledger in
    let records = g.S.Frozen.records in
    subst (MakesRoot (ledger c.args.store.now) (ledger c.make_part.new.store) (records c.args.store.now) (records c.make_part.new.store) slots.level slots.keys.items slots.values.items)
    (sym c.from_raw-2.ensures)
    (root-made (ledger c.args.store.now) (ledger c.make_part.new.store) (records c.args.store.now) (records c.make_part.new.store)
    slots.level slots.keys.items slots.values.items part.node c.requires.low (many_from slots.level (length slots.keys.items) some other) c.in_ok-part.ensures.makes.node)
