use Rattle.std.proofs.Common.{rules, ◌*◌, ℕ, ◌≡◌, ◌<◌, ◌≤◌, ◌+◌, ◌-◌, ◌^◌, ◌++◌, ◌∷◌, [], suc, length, arith, sym, ap, subst, ◌∙◌, List, get_or, set, take, drop, map, true, refl}
use Rattle.std.specs.List.{zip, AllByRecursion}
use Rattle.list_lemmas.proofs.Tests.{zero_from_test, above_zero_from_test}
use Rattle.store_api.proofs.May.{may_do-then, may_do-same}
use Rattle.store_api.specs.Parts.{uses}
use Rattle.store_api.specs.Units.{MayDo}
use Rattle.tree_read.specs.Nodes.{node_keys, node_values}
use Rattle.tree_read.specs.Trees.{pairs_below, nodes_below, IsNode, Keeps}
use Rattle.tree_read.specs.Keys.{AllReadable}
use Rattle.tree_read.proofs.NodeKeyLemmas.{keys_all}
use Rattle.tree_read.proofs.ChildLemmas.{keys-length}
use Rattle.tree_read.proofs.ReadLemmas.{node-room, node-size, node-keys-all, node-even}
use Rattle.tree_read.proofs.TreeLemmas.{IsNode-form}
use Rattle.tree_read.proofs.SlotLemmas.{hand-kept, slot_pairs-kept}
use Rattle.tree_read.specs.Slots.{slot_pairs, slot_nodes, IsInHand}
use Rattle.frozen_nodes.proofs.MakesLemmas.{keeps-then, counts-none}
use Rattle.frozen_nodes.specs.Makes.{CountsNodes}
use Rattle.tree_changes.specs.Counts.{SpendsRows, SpendsBelow, SpendsSlots, all_of, gain_of}
use Rattle.tree_changes.proofs.SpendLemmas.{counts-more, spends-closed, spends-leaf, slots-counts, slots-more, slots-none, below-rows, zip-size, slice-length, leaf-slots}
use Rattle.tree_changes.proofs.CountLemmas.{front_of, front-size, fit-front}
use Rattle.tree_changes.specs.Merges.{Change, merged}
use Rattle.tree_changes.specs.Layers.{rows_pairs, AreInHand, AreKeyed, TurnsRows, seen_change, seen_changes}
use Rattle.tree_changes.specs.declared.change_below.Change as given
use Rattle.tree_changes.proofs.LayerLemmas.{on_ok, on_ok_both}
use Rattle.tree_changes.proofs.TurnLemmas.{turns-are, one-size, slot-hand, slot-hand-kept}
use Rattle.tree_changes.proofs.ChangeBelowLemmas.{GoesOn, goes-none, goes-more, goes-end, child-node, child-pairs, child-nodes, opened, opened-is, turns-inner, turns-leaf, first-even, merged-none, keyed-kept, slot-step, slot-keyed, slot-size, slices-size, sorted-slice, seen-size, merged-size}
use Rattle.tree_changes.proofs.change_below.+changing.Goals as goal

pub change_child-put_behind-requires-clause-few : goal.change_child-put_behind-requires-clause-few
change_child-put_behind-requires-clause-few g t c = let few = c.requires.few in omega arith

pub change_child-returns-then-is_empty-clause-turns : goal.change_child-returns-then-is_empty-clause-turns
change_child-returns-then-is_empty-clause-turns g t c =
    let key = g.K.KeyOrder in
    let ledger = g.S.Store.ledger in
    let records = g.S.Frozen.records in
    let s = c.args.store.now in
    let u = c.put_behind.new.store in
    let m = records s in
    let list = c.args.changes.now in
    let f : given.Change g.row.K.Denot → Change = λ change. seen_change key.read key.order (λ (change : given.Change g.row.K.Denot). key.sought change.key) (λ (change : given.Change g.row.K.Denot). change.pair) m change in
    let none = zero_from_test (length list) c.is_empty.result c.is_empty.ensures c.if-is_empty.true in
    let here = slot_pairs m c.args.level (c.args.key ∷ []) (c.args.value ∷ []) in
    on_ok c.put_behind.result
    (turns-are (ledger s) (ledger u) m (records u) 0 c.args.rows.now c.put_behind.new.rows here (merged (map f list) here)
    (slot_nodes m c.args.level (c.args.value ∷ [])) (slot_nodes m c.args.level (c.args.value ∷ [])) c.args.replaced.now.items c.put_behind.new.replaced.items
    (sym (merged-none f list here none)) refl)
    c.put_behind.ensures.turns

pub change_child-overflow_cast-value : goal.change_child-overflow_cast-value
change_child-overflow_cast-value g t c =
    let m = g.S.Frozen.records c.args.store.now in
    let size = one-size m c.args.level c.args.key c.args.value c.requires.above c.requires.slot in
    let small = g.met.S.Frozen.references c.args.store.now c.args.value (omega arith) in
    omega arith

pub change_child-change_below-requires : goal.change_child-change_below-requires
change_child-change_below-requires g t c =
    let key = g.K.KeyOrder in
    let m = g.S.Frozen.records c.args.store.now in
    let level = c.args.level in
    let above = c.requires.above in
    let low = c.requires.low in
    let child = c.from_raw-child.result in
    let pairs = child-pairs m level c.args.key c.args.value child above c.requires.slot c.from_raw-child.ensures in
    λ κs h. (
      omega arith,
      (
        search rules,
        (
          h.0,
          (
            h.1.0,
            (
              h.1.1.0,
              (
                h.1.1.1.0,
                (
                  h.1.1.1.1,
                  (
                    omega arith,
                    (
                      c.requires.unit,
                      (
                        omega arith,
                        (
                          c.requires.rows,
                          (
                            c.requires.hand,
                            (
                              child-node m level c.args.key c.args.value child above c.requires.slot c.from_raw-child.ensures,
                              (
                                subst (AreKeyed key.order key.read key.can_read key.reads_from m) (sym pairs) c.requires.keyed,
                                (
                                  c.requires.sorted,
                                  subst (λ ps. length (rows_pairs m 0 c.args.rows.now) + length ps + length c.args.changes.now < 2 ^ 32) (sym pairs) c.requires.few,
                                ),
                              ),
                            ),
                          ),
                        ),
                      ),
                    ),
                  ),
                ),
              ),
            ),
          ),
        ),
      ),
    )

pub change_child-returns-clause-turns : goal.change_child-returns-clause-turns
change_child-returns-clause-turns g t c =
    let key = g.K.KeyOrder in
    let ledger = g.S.Store.ledger in
    let records = g.S.Frozen.records in
    let s = c.args.store.now in
    let u = c.change_below.new.store in
    let m = records s in
    let level = c.args.level in
    let child = c.from_raw-child.result in
    let list = seen_changes key.read key.order (λ (change : given.Change g.row.K.Denot). key.sought change.key) (λ (change : given.Change g.row.K.Denot). change.pair) m c.args.changes.now in
    on_ok c.change_below.result
    (turns-are (ledger s) (ledger u) m (records u) 0 c.args.rows.now c.change_below.new.rows
    (merged list (pairs_below m (level - 1) child)) (merged list (slot_pairs m level (c.args.key ∷ []) (c.args.value ∷ [])))
    (nodes_below m (level - 1) child) (slot_nodes m level (c.args.value ∷ [])) c.args.replaced.now.items c.change_below.new.replaced.items
    (ap (merged list) (child-pairs m level c.args.key c.args.value child c.requires.above c.requires.slot c.from_raw-child.ensures))
    (child-nodes m level c.args.key c.args.value child c.requires.above c.requires.slot c.from_raw-child.ensures))
    c.change_below.ensures.turns

pub change_slots-loop-slot-init : goal.change_slots-loop-slot-init
change_slots-loop-slot-init g t c =
    let key = g.K.KeyOrder in
    let ledger = g.S.Store.ledger c.args.store.now in
    let m = g.S.Frozen.records c.args.store.now in
    let ks = c.args.slots.now.keys.items in
    let vs = c.args.slots.now.values.items in
    let list = seen_changes key.read key.order (λ (change : given.Change g.row.K.Denot). key.sought change.key) (λ (change : given.Change g.row.K.Denot). change.pair) m c.args.changes.now in
    record {
      goes = goes-none ledger m c.args.rows.now list (slot_pairs m c.args.level ks vs) c.args.replaced.now.items c.requires.hand
          (let size = seen-size key.read key.order (λ (change : given.Change g.row.K.Denot). key.sought change.key) (λ (change : given.Change g.row.K.Denot). change.pair) m c.args.changes.now in
          let few = c.requires.few in omega arith) c.args.level vs;
      within = omega arith;
      last = λ e. let some = c.requires.some in absurd (omega arith);
      keeps = λ r some. refl;
      stays = λ r. omega arith;
      may = may_do-same ledger;
      spends = λ budgets size fit. slots-none ledger budgets c.args.rows.now fit;
    }

pub change_slots-end_below-end-requires-clause-readable : goal.change_slots-end_below-end-requires-clause-readable
change_slots-end_below-end-requires-clause-readable g t c =
    let key = g.K.KeyOrder in
    let m = g.S.Frozen.records c.args.store.now in
    let n = g.S.Frozen.records c.loop-slot.store in
    let ks = c.args.slots.now.keys.items in
    let vs = c.args.slots.now.values.items in
    let keeps = c.loop-slot.invariant.keeps in
    let kept = keyed-kept key.order g.met.K.KeyOrder.total key.can_read key.read key.reads_from g.met.K.KeyOrder.stays g.met.K.KeyOrder.steady
    (λ (change : given.Change g.row.K.Denot). key.sought change.key) (λ (change : given.Change g.row.K.Denot). change.pair) m n keeps (slot_pairs m c.args.level ks vs) c.requires.keyed in
    keys_all (key.can_read n) n c.args.level ks vs (hand-kept m n keeps c.args.level ks vs c.requires.slots)
    (subst (λ ps. AllReadable key.can_read n ps) (sym (slot_pairs-kept m n keeps c.args.level ks vs c.requires.slots)) kept.readable)

pub change_slots-loop-slot-preserved : goal.change_slots-loop-slot-preserved
change_slots-loop-slot-preserved g t c =
    let key = g.K.KeyOrder in
    let ledger = g.S.Store.ledger in
    let records = g.S.Frozen.records in
    let s = c.args.store.now in
    let u = c.loop-slot.store in
    let w = c.change_child.new.store in
    let m = records s in
    let n = records u in
    let level = c.args.level in
    let ks = c.args.slots.now.keys.items in
    let vs = c.args.slots.now.values.items in
    let list = c.args.changes.now in
    let slot = c.loop-slot.slot in
    let low : slot < length ks = (let size = c.len-slot-end.ensures in let test = c.loop-slot-test.true in omega arith) in
    let first = c.loop-slot.first in
    let end = c.end_below-end.result in
    let keeps = c.loop-slot.invariant.keeps in
    let sought : given.Change g.row.K.Denot → _ = λ change. key.sought change.key in
    let pair : given.Change g.row.K.Denot → _ = λ change. change.pair in
    let seen : _ → List (given.Change g.row.K.Denot) → List Change = λ r cs. seen_changes key.read key.order sought pair r cs in
    let some = take (end - first) (drop first list) in
    let one_key = get_or ks slot 0 ∷ [] in
    let one_value = get_or vs slot 0 ∷ [] in
    let between = c.loop-slot.replaced.items in
    let after = c.change_child.new.replaced.items in
    let is = c.end_below-end.ensures in
    let step = slot-step key.order g.met.K.KeyOrder.total key.can_read key.read key.reads_from g.met.K.KeyOrder.stays g.met.K.KeyOrder.steady sought pair m n keeps
    level c.requires.above ks vs c.requires.slots c.requires.keyed slot low list c.requires.sorted first end is.from is.last is.below is.at in
    let pairs_size = slot-size key.order g.met.K.KeyOrder.total key.can_read key.read key.reads_from g.met.K.KeyOrder.stays g.met.K.KeyOrder.steady sought pair m n keeps
    level c.requires.above ks vs c.requires.slots c.requires.keyed slot low list c.requires.sorted first end is.from is.last is.below is.at in
    let slices = slices-size key.order g.met.K.KeyOrder.total key.can_read key.read key.reads_from g.met.K.KeyOrder.stays g.met.K.KeyOrder.steady sought pair m n keeps
    level c.requires.above ks vs c.requires.slots c.requires.keyed slot low list c.requires.sorted first end is.from is.last is.below is.at in
    let changes_size : length (seen n some) + length (seen m (drop end list)) ≡ length (seen m (drop first list)) =
    (let a = seen-size key.read key.order sought pair n some in let b = seen-size key.read key.order sought pair m (drop end list) in
    let d = seen-size key.read key.order sought pair m (drop first list) in omega arith) in
    let key_is : get_or c.deref.result.now slot 0 ∷ [] ≡ one_key = ap (λ (l : List ℕ). get_or l slot 0 ∷ []) c.deref.ensures.0 in
    let value_is : get_or c.deref-in-loop-slot.result.now slot 0 ∷ [] ≡ one_value = ap (λ (l : List ℕ). get_or l slot 0 ∷ []) c.deref-in-loop-slot.ensures.0 in
    let Turns : g.row.S.Denot → List ℕ → List ℕ → Type 0 = λ st k v. TurnsRows (ledger st) (ledger w) (records st) (records w) 0 c.loop-slot.rows c.change_child.new.rows
    (merged (seen (records st) some) (slot_pairs (records st) level k v)) (slot_nodes (records st) level v) between after in
    let turns : Turns u one_key one_value =
    subst (λ (st : g.row.S.Denot). Turns st one_key one_value) is.same
    (subst (λ k. Turns c.end_below-end.new.frozen k one_value) key_is
    (subst (λ v. Turns c.end_below-end.new.frozen (get_or c.deref.result.now slot 0 ∷ []) v) value_is c.in_ok-change_child.ensures.turns)) in
    let kept = slot_pairs-kept m n keeps level one_key one_value (slot-hand m level ks vs c.requires.slots slot low) in
    record {
      goes = subst (λ k. GoesOn (ledger s) (ledger w) m (records w) c.args.rows.now c.change_child.new.rows (seen m list) (seen m (drop end list))
          (slot_pairs m level ks vs) (slot_pairs m level (drop k ks) (drop k vs)) (slot_nodes m level (take (slot + 1) vs)) c.args.replaced.now.items after)
          (let e : suc slot ≡ slot + 1 = omega arith in e)
          (goes-more (ledger s) (ledger u) (ledger w) m n (records w) keeps level c.args.rows.now c.loop-slot.rows c.change_child.new.rows
          (seen m list) (seen m (drop first list)) (seen m (drop end list)) (seen n some)
          (slot_pairs m level ks vs) (slot_pairs m level (drop slot ks) (drop slot vs)) (slot_pairs m level (drop (suc slot) ks) (drop (suc slot) vs)) (slot_pairs m level one_key one_value)
          ks vs c.args.replaced.now.items between after c.requires.slots slot (slot + 1) low (omega arith) pairs_size changes_size step c.loop-slot.invariant.goes
          (subst (λ ps. TurnsRows (ledger u) (ledger w) n (records w) 0 c.loop-slot.rows c.change_child.new.rows (merged (seen n some) ps) (slot_nodes n level one_value) between after) kept turns));
      within = is.within;
      last = λ e. is.last (omega arith);
      keeps = keeps-then m n (records w) keeps (subst (λ (st : g.row.S.Denot). Keeps (records st) (records w)) is.same c.change_child.ensures.keeps);
      stays = λ r. let a = c.loop-slot.invariant.stays r in
          let b : uses (ledger u) r ≤ uses (ledger w) r = subst (λ (st : g.row.S.Denot). uses (ledger st) r ≤ uses (ledger w) r) is.same (c.change_child.ensures.stays r) in omega arith;
      may = may_do-then (ledger s) (ledger u) (ledger w) c.loop-slot.invariant.may (subst (λ (st : g.row.S.Denot). MayDo (ledger st) (ledger w)) is.same c.change_child.ensures.may);
      spends = λ budgets size fit.
          let x = c.loop-slot.invariant.spends budgets size fit in
          let child : SpendsRows (ledger u) (ledger w) (gain_of (length some)) (length some) x.spends.left c.loop-slot.rows c.change_child.new.rows =
          subst (λ (st : g.row.S.Denot). SpendsRows (ledger st) (ledger w) (gain_of (length some)) (length some) x.spends.left c.loop-slot.rows c.change_child.new.rows) is.same
          (c.in_ok-change_child.ensures.spends x.spends.left (x.spends.spends.size ∙ size) x.spends.spends.fits) in
          slots-more (ledger s) (ledger u) (ledger w) slot (slot + 1) first (length some) end budgets c.args.rows.now c.loop-slot.rows c.change_child.new.rows refl
          (let cut = slice-length list first end is.from is.within in omega arith) c.loop-slot.invariant.may x child;
    }

pub change_slots-change_child-requires : goal.change_slots-change_child-requires
change_slots-change_child-requires g t c =
    let key = g.K.KeyOrder in
    let ledger = g.S.Store.ledger in
    let records = g.S.Frozen.records in
    let s = c.args.store.now in
    let u = c.loop-slot.store in
    let m = records s in
    let n = records u in
    let level = c.args.level in
    let above = c.requires.above in
    let ks = c.args.slots.now.keys.items in
    let vs = c.args.slots.now.values.items in
    let list = c.args.changes.now in
    let slot = c.loop-slot.slot in
    let low : slot < length ks = (let size = c.len-slot-end.ensures in let test = c.loop-slot-test.true in omega arith) in
    let first = c.loop-slot.first in
    let end = c.end_below-end.result in
    let keeps = c.loop-slot.invariant.keeps in
    let goes = c.loop-slot.invariant.goes in
    let rows = c.loop-slot.rows in
    let sought : given.Change g.row.K.Denot → _ = λ change. key.sought change.key in
    let pair : given.Change g.row.K.Denot → _ = λ change. change.pair in
    let one_key = get_or ks slot 0 ∷ [] in
    let one_value = get_or vs slot 0 ∷ [] in
    let is = c.end_below-end.ensures in
    let same = sym is.same in
    let hand = slot-hand-kept m level ks vs c.requires.slots slot low n keeps in
    let here = slot-keyed key.order g.met.K.KeyOrder.total key.can_read key.read key.reads_from g.met.K.KeyOrder.stays g.met.K.KeyOrder.steady sought pair m n keeps
    level above ks vs c.requires.slots c.requires.keyed slot low list c.requires.sorted first end is.from is.last is.below is.at in
    let alike = slot_pairs-kept m n keeps level one_key one_value (slot-hand m level ks vs c.requires.slots slot low) in
    let keyed = subst (AreKeyed key.order key.read key.can_read key.reads_from n) (sym alike)
    (keyed-kept key.order g.met.K.KeyOrder.total key.can_read key.read key.reads_from g.met.K.KeyOrder.stays g.met.K.KeyOrder.steady sought pair m n keeps
    (slot_pairs m level one_key one_value) here) in
    let pairs_size = slot-size key.order g.met.K.KeyOrder.total key.can_read key.read key.reads_from g.met.K.KeyOrder.stays g.met.K.KeyOrder.steady sought pair m n keeps
    level above ks vs c.requires.slots c.requires.keyed slot low list c.requires.sorted first end is.from is.last is.below is.at in
    let changes_size = slices-size key.order g.met.K.KeyOrder.total key.can_read key.read key.reads_from g.met.K.KeyOrder.stays g.met.K.KeyOrder.steady sought pair m n keeps
    level above ks vs c.requires.slots c.requires.keyed slot low list c.requires.sorted first end is.from is.last is.below is.at in
    let few : length (rows_pairs n 0 rows) + length (slot_pairs n level one_key one_value) + length (take (end - first) (drop first list)) < 2 ^ 32 =
    (let a = goes.few in let b = ap length alike in let d = seen-size key.read key.order sought pair m (drop first list) in omega arith) in
    let key_is : one_key ≡ get_or c.deref.result.now slot 0 ∷ [] = ap (λ (l : List ℕ). get_or l slot 0 ∷ []) (sym c.deref.ensures.0) in
    let value_is : one_value ≡ get_or c.deref-in-loop-slot.result.now slot 0 ∷ [] = ap (λ (l : List ℕ). get_or l slot 0 ∷ []) (sym c.deref-in-loop-slot.ensures.0) in
    let moved : (P : g.row.S.Denot → List ℕ → List ℕ → Type 0) → P u one_key one_value
    → P c.end_below-end.new.frozen (get_or c.deref.result.now slot 0 ∷ []) (get_or c.deref-in-loop-slot.result.now slot 0 ∷ []) =
    λ P p. subst (λ (st : g.row.S.Denot). P st (get_or c.deref.result.now slot 0 ∷ []) (get_or c.deref-in-loop-slot.result.now slot 0 ∷ [])) same
    (subst (λ k. P u k (get_or c.deref-in-loop-slot.result.now slot 0 ∷ [])) key_is (subst (λ v. P u one_key v) value_is p)) in
    λ κs h. (
      omega arith,
      (
        search rules,
        (
          h.0,
          (
            h.1.0,
            (
              h.1.1.0,
              (
                h.1.1.1.0,
                (
                  h.1.1.1.1,
                  (
                    subst (λ (st : g.row.S.Denot). (ledger st).unit ≡ true) same (c.loop-slot.invariant.may.unit ∙ c.requires.unit),
                    (
                      above,
                      (
                        c.requires.low,
                        (
                          goes.turns.size ∙ c.requires.rows,
                          (
                            subst (λ (st : g.row.S.Denot). AreInHand (records st) 0 rows) same goes.turns.hand,
                            (
                              moved (λ st k v. IsInHand (records st) level k v) hand,
                              (
                                moved (λ st k v. AreKeyed key.order key.read key.can_read key.reads_from (records st) (slot_pairs (records st) level k v)) keyed,
                                (
                                  sorted-slice key.order sought list first end c.requires.sorted,
                                  moved (λ st k v. length (rows_pairs (records st) 0 rows) + length (slot_pairs (records st) level k v) + length (take (end - first) (drop first list)) < 2 ^ 32) few,
                                ),
                              ),
                            ),
                          ),
                        ),
                      ),
                    ),
                  ),
                ),
              ),
            ),
          ),
        ),
      ),
    )

pub change_slots-returns-clause-turns : goal.change_slots-returns-clause-turns
change_slots-returns-clause-turns g t c =
    let key = g.K.KeyOrder in
    let ledger = g.S.Store.ledger in
    let records = g.S.Frozen.records in
    let s = c.args.store.now in
    let u = c.loop-slot.store in
    let m = records s in
    let level = c.args.level in
    let ks = c.args.slots.now.keys.items in
    let vs = c.args.slots.now.values.items in
    let slot = c.loop-slot.slot in
    let past : length ks ≤ slot = (let size = c.len-slot-end.ensures in let test = c.loop-slot-test.false in omega arith) in
    let f : given.Change g.row.K.Denot → Change = λ change. seen_change key.read key.order (λ (change : given.Change g.row.K.Denot). key.sought change.key) (λ (change : given.Change g.row.K.Denot). change.pair) m change in
    goes-end f (ledger s) (ledger u) m (records u) level c.args.rows.now c.loop-slot.rows c.args.changes.now (slot_pairs m level ks vs) ks vs
    c.args.replaced.now.items c.loop-slot.replaced.items c.requires.slots.even slot c.loop-slot.first past (c.loop-slot.invariant.last (omega arith)) c.loop-slot.invariant.goes

pub change_below-read_node-slots-requires : goal.change_below-read_node-slots-requires
change_below-read_node-slots-requires g t c =
    let m = g.S.Frozen.records c.args.store.now in
    (omega arith, (node-size m 1 c.args.level c.args.node c.requires.node, node-room m 1 c.args.level c.args.node c.requires.node))

pub change_below-change_leaf-requires-clause-even : goal.change_below-change_leaf-requires-clause-even
change_below-change_leaf-requires-clause-even g t c =
    let m = g.S.Frozen.records c.args.store.now in
    let node = c.args.node in
    let keys : c.deref.result.now ≡ node_keys (m node) = c.deref.ensures.0 ∙ c.read_node-slots.ensures.keys in
    let values : c.deref-then-level-eq0.result.now ≡ node_values (m node) = c.deref-then-level-eq0.ensures.0 ∙ c.read_node-slots.ensures.values in
    ap length keys ∙ node-even m 1 c.args.level node c.requires.node ∙ sym (ap length values)

pub change_below-change_leaf-requires-clause-readable : goal.change_below-change_leaf-requires-clause-readable
change_below-change_leaf-requires-clause-readable g t c =
    let key = g.K.KeyOrder in
    let m = g.S.Frozen.records c.args.store.now in
    let node = c.args.node in
    let keys : c.deref.result.now ≡ node_keys (m node) = c.deref.ensures.0 ∙ c.read_node-slots.ensures.keys in
    subst (λ (st : g.row.S.Denot). AllByRecursion (key.can_read (g.S.Frozen.records st)) c.deref.result.now) (sym c.read_node-slots.ensures.same)
    (subst (AllByRecursion (key.can_read m)) (sym keys) (node-keys-all m 1 c.args.level node c.requires.node (key.can_read m) c.requires.keyed.readable))

pub change_below-change_leaf-requires-clause-row : goal.change_below-change_leaf-requires-clause-row
change_below-change_leaf-requires-clause-row g t c =
    let m = g.S.Frozen.records c.args.store.now in
    first-even m c.args.rows.now c.index-rows-0.result c.requires.hand (let size = c.requires.rows in omega arith)

pub change_below-returns-then-level-eq0-clause-turns : goal.change_below-returns-then-level-eq0-clause-turns
change_below-returns-then-level-eq0-clause-turns g t c =
    let key = g.K.KeyOrder in
    let ledger = g.S.Store.ledger in
    let records = g.S.Frozen.records in
    let s = c.args.store.now in
    let v = c.read_node-slots.new.frozen in
    let u = c.change_leaf.new.frozen in
    let m = records s in
    let node = c.args.node in
    let rows = c.args.rows.now in
    let ks = c.deref.result.now in
    let vs = c.deref-then-level-eq0.result.now in
    let row = c.change_leaf.new.row in
    let d = c.index-rows-0.result in
    let before = c.args.replaced.now.items in
    let after = c.push_node.new.nodes.items in
    let bottom : c.args.level ≡ 0 = c.if-level-eq0.true in
    let keys : ks ≡ node_keys (m node) = c.deref.ensures.0 ∙ c.read_node-slots.ensures.keys in
    let values : vs ≡ node_values (m node) = c.deref-then-level-eq0.ensures.0 ∙ c.read_node-slots.ensures.values in
    let seen : _ → List Change = λ r. seen_changes key.read key.order (λ (change : given.Change g.row.K.Denot). key.sought change.key) (λ (change : given.Change g.row.K.Denot). change.pair) r c.args.changes.now in
    let is = subst (λ l. IsNode m 1 l node) bottom c.requires.node in
    let opens : after ≡ before ++ node ∷ [] = c.in_ok-push_node.ensures.items ∙ ap (λ (q : ℕ). before ++ q ∷ []) c.raw.ensures in
    let same : u ≡ s = c.change_leaf.ensures.same ∙ c.read_node-slots.ensures.same in
    on_ok_both c.change_leaf.result
    (λ even pairs.
    subst (λ (st : g.row.S.Denot). TurnsRows (ledger s) (ledger st) m (records st) 0 rows (set rows 0 row) (merged (seen m) (pairs_below m c.args.level node)) (nodes_below m c.args.level node) before after) (sym same)
    (subst (λ l. TurnsRows (ledger s) (ledger s) m m 0 rows (set rows 0 row) (merged (seen m) (pairs_below m l node)) (nodes_below m l node) before after) (sym bottom)
    (turns-leaf (ledger s) m node is ks vs keys values rows row d (seen m) before after c.requires.hand (let size = c.requires.rows in omega arith) opens even
    (subst (λ (st : g.row.S.Denot). zip row.keys.items row.nodes.items ≡ zip (get_or rows 0 d).keys.items (get_or rows 0 d).nodes.items ++ merged (seen (records st)) (zip ks vs))
    c.read_node-slots.ensures.same pairs))))
    c.change_leaf.ensures.row c.change_leaf.ensures.pairs

pub change_below-change_slots-requires : goal.change_below-change_slots-requires
change_below-change_slots-requires g t c =
    let key = g.K.KeyOrder in
    let ledger = g.S.Store.ledger in
    let records = g.S.Frozen.records in
    let s = c.args.store.now in
    let m = records s in
    let level = c.args.level in
    let node = c.args.node in
    let above : 0 < level = (let other = c.if-level-eq0.false in omega arith) in
    let rows = c.args.rows.now in
    let ks = c.read_node-slots.result.keys.items in
    let vs = c.read_node-slots.result.values.items in
    let keys : ks ≡ node_keys (m node) = c.read_node-slots.ensures.keys in
    let values : vs ≡ node_values (m node) = c.read_node-slots.ensures.values in
    let same = sym c.read_node-slots.ensures.same in
    let hand = opened m level node c.requires.node ks vs keys values in
    let pairs = opened-is m level node c.requires.node ks vs keys values in
    let filled = (IsNode-form m 1 level node c.requires.node).filled in
    let used = keys-length m 1 level node c.requires.node in
    let some : 0 < length ks = (let size = ap length keys in omega arith) in
    λ κs h. (
      omega arith,
      (
        search rules,
        (
          h.0,
          (
            h.1.0,
            (
              h.1.1.0,
              (
                h.1.1.1.0,
                (
                  h.1.1.1.1,
                  (
                    subst (λ (st : g.row.S.Denot). (ledger st).unit ≡ true) same c.requires.unit,
                    (
                      above,
                      (
                        c.requires.low,
                        (
                          c.requires.rows,
                          (
                            subst (λ (st : g.row.S.Denot). AreInHand (records st) 0 rows) same c.requires.hand,
                            (
                              subst (λ (st : g.row.S.Denot). IsInHand (records st) level ks vs) same hand,
                              (
                                some,
                                (
                                  subst (λ (st : g.row.S.Denot). AreKeyed key.order key.read key.can_read key.reads_from (records st) (slot_pairs (records st) level ks vs)) same (subst (AreKeyed key.order key.read key.can_read key.reads_from m) (sym pairs) c.requires.keyed),
                                  (
                                    c.requires.sorted,
                                    subst (λ (st : g.row.S.Denot). length (rows_pairs (records st) 0 rows) + length (slot_pairs (records st) level ks vs) + length c.args.changes.now < 2 ^ 32) same (subst (λ ps. length (rows_pairs m 0 rows) + length ps + length c.args.changes.now < 2 ^ 32) (sym pairs) c.requires.few),
                                  ),
                                ),
                              ),
                            ),
                          ),
                        ),
                      ),
                    ),
                  ),
                ),
              ),
            ),
          ),
        ),
      ),
    )

pub change_below-returns-clause-turns : goal.change_below-returns-clause-turns
change_below-returns-clause-turns g t c =
    let key = g.K.KeyOrder in
    let ledger = g.S.Store.ledger in
    let records = g.S.Frozen.records in
    let s = c.args.store.now in
    let w = c.change_slots.new.store in
    let m = records s in
    let level = c.args.level in
    let node = c.args.node in
    let rows = c.args.rows.now in
    let rows2 = c.change_slots.new.rows in
    let ks = c.read_node-slots.result.keys.items in
    let vs = c.read_node-slots.result.values.items in
    let before = c.args.replaced.now.items in
    let between = c.push_node.new.nodes.items in
    let after = c.change_slots.new.replaced.items in
    let seen : _ → List Change = λ r. seen_changes key.read key.order (λ (change : given.Change g.row.K.Denot). key.sought change.key) (λ (change : given.Change g.row.K.Denot). change.pair) r c.args.changes.now in
    let opens : between ≡ before ++ node ∷ [] = c.in_ok-push_node.ensures.items ∙ ap (λ (q : ℕ). before ++ q ∷ []) c.raw.ensures in
    on_ok c.change_slots.result
    (λ turns. turns-inner m level node c.requires.node ks vs c.read_node-slots.ensures.keys c.read_node-slots.ensures.values (ledger s) (ledger w) (records w) rows rows2 (seen m)
    before between after c.requires.hand opens
    (subst (λ (st : g.row.S.Denot). TurnsRows (ledger st) (ledger w) (records st) (records w) 0 rows rows2 (merged (seen (records st)) (slot_pairs (records st) level ks vs))
    (slot_nodes (records st) level vs) between after) c.read_node-slots.ensures.same turns))
    c.change_slots.ensures.turns

pub change_slots-returns-in_err-change_child-clause-keeps : goal.change_slots-returns-in_err-change_child-clause-keeps
change_slots-returns-in_err-change_child-clause-keeps g t c =
    let ledger = g.S.Store.ledger in
    let records = g.S.Frozen.records in
    let s = c.args.store.now in
    let u = c.loop-slot.store in
    let w = c.change_child.new.store in
    keeps-then (records s) (records u) (records w) c.loop-slot.invariant.keeps
    (subst (λ (st : g.row.S.Denot). Keeps (records st) (records w)) c.end_below-end.ensures.same c.change_child.ensures.keeps)

pub change_slots-returns-in_err-change_child-clause-stays : goal.change_slots-returns-in_err-change_child-clause-stays
change_slots-returns-in_err-change_child-clause-stays g t c =
    let ledger = g.S.Store.ledger in
    let records = g.S.Frozen.records in
    let s = c.args.store.now in
    let u = c.loop-slot.store in
    let w = c.change_child.new.store in
    λ r.
    let a = c.loop-slot.invariant.stays r in
    let b : uses (ledger u) r ≤ uses (ledger w) r = subst (λ (st : g.row.S.Denot). uses (ledger st) r ≤ uses (ledger w) r) c.end_below-end.ensures.same (c.change_child.ensures.stays r) in
    omega arith

pub change_slots-returns-in_err-change_child-clause-may : goal.change_slots-returns-in_err-change_child-clause-may
change_slots-returns-in_err-change_child-clause-may g t c =
    let ledger = g.S.Store.ledger in
    let records = g.S.Frozen.records in
    let s = c.args.store.now in
    let u = c.loop-slot.store in
    let w = c.change_child.new.store in
    may_do-then (ledger s) (ledger u) (ledger w) c.loop-slot.invariant.may
    (subst (λ (st : g.row.S.Denot). MayDo (ledger st) (ledger w)) c.end_below-end.ensures.same c.change_child.ensures.may)

pub change_below-returns-then-level-eq0-clause-keeps : goal.change_below-returns-then-level-eq0-clause-keeps
change_below-returns-then-level-eq0-clause-keeps g t c =
    let ledger = g.S.Store.ledger in
    let records = g.S.Frozen.records in
    let s = c.args.store.now in
    let same : c.change_leaf.new.frozen ≡ s = c.change_leaf.ensures.same ∙ c.read_node-slots.ensures.same in
    subst (λ (st : g.row.S.Denot). Keeps (records s) (records st)) (sym same) (λ r some. refl)

pub change_below-returns-then-level-eq0-clause-stays : goal.change_below-returns-then-level-eq0-clause-stays
change_below-returns-then-level-eq0-clause-stays g t c =
    let ledger = g.S.Store.ledger in
    let records = g.S.Frozen.records in
    let s = c.args.store.now in
    let same : c.change_leaf.new.frozen ≡ s = c.change_leaf.ensures.same ∙ c.read_node-slots.ensures.same in
    λ r. subst (λ (st : g.row.S.Denot). uses (ledger s) r ≤ uses (ledger st) r) (sym same) (omega arith)

pub change_below-returns-then-level-eq0-clause-may : goal.change_below-returns-then-level-eq0-clause-may
change_below-returns-then-level-eq0-clause-may g t c =
    let ledger = g.S.Store.ledger in
    let records = g.S.Frozen.records in
    let s = c.args.store.now in
    let same : c.change_leaf.new.frozen ≡ s = c.change_leaf.ensures.same ∙ c.read_node-slots.ensures.same in
    subst (λ (st : g.row.S.Denot). MayDo (ledger s) (ledger st)) (sym same) (may_do-same (ledger s))

pub change_below-returns-clause-keeps : goal.change_below-returns-clause-keeps
change_below-returns-clause-keeps g t c =
    let ledger = g.S.Store.ledger in
    let records = g.S.Frozen.records in
    let s = c.args.store.now in
    let w = c.change_slots.new.store in
    subst (λ (st : g.row.S.Denot). Keeps (records st) (records w)) c.read_node-slots.ensures.same c.change_slots.ensures.keeps

pub change_below-returns-clause-stays : goal.change_below-returns-clause-stays
change_below-returns-clause-stays g t c =
    let ledger = g.S.Store.ledger in
    let records = g.S.Frozen.records in
    let s = c.args.store.now in
    let w = c.change_slots.new.store in
    λ r. subst (λ (st : g.row.S.Denot). uses (ledger st) r ≤ uses (ledger w) r) c.read_node-slots.ensures.same (c.change_slots.ensures.stays r)

pub change_below-returns-clause-may : goal.change_below-returns-clause-may
change_below-returns-clause-may g t c =
    let ledger = g.S.Store.ledger in
    let records = g.S.Frozen.records in
    let s = c.args.store.now in
    let w = c.change_slots.new.store in
    subst (λ (st : g.row.S.Denot). MayDo (ledger st) (ledger w)) c.read_node-slots.ensures.same c.change_slots.ensures.may

pub change_child-returns-then-is_empty-clause-spends : goal.change_child-returns-then-is_empty-clause-spends
change_child-returns-then-is_empty-clause-spends g t c =
    let ledger = g.S.Store.ledger in
    let none = zero_from_test (length c.args.changes.now) c.is_empty.result c.is_empty.ensures c.if-is_empty.true in
    on_ok c.put_behind.result
    (λ puts budgets size fit.
    subst (λ k. SpendsRows (ledger c.args.store.now) (ledger c.put_behind.new.store) (gain_of k) k budgets c.args.rows.now c.put_behind.new.rows) (sym none) (puts budgets size fit))
    c.put_behind.ensures.spends

pub change_child-returns-then-is_empty-clause-counts : goal.change_child-returns-then-is_empty-clause-counts
change_child-returns-then-is_empty-clause-counts g t c =
    let ledger = g.S.Store.ledger in
    λ budgets size fit.
    counts-more (ledger c.args.store.now) (ledger c.put_behind.new.store) (2 * all_of budgets) _ (omega arith) (c.put_behind.ensures.counts budgets size fit)

pub change_child-returns-clause-spends : goal.change_child-returns-clause-spends
change_child-returns-clause-spends g t c =
    let ledger = g.S.Store.ledger in
    let above = c.requires.above in
    let some : 0 < length c.args.changes.now = above_zero_from_test (length c.args.changes.now) c.is_empty.result c.is_empty.ensures c.if-is_empty.false in
    on_ok c.change_below.result
    (λ below budgets size fit.
    below-rows (ledger c.args.store.now) (ledger c.change_below.new.store) (length c.args.changes.now) budgets c.args.rows.now c.change_below.new.rows some
    (below some budgets (omega arith) fit))
    c.change_below.ensures.spends

pub change_child-returns-clause-counts : goal.change_child-returns-clause-counts
change_child-returns-clause-counts g t c =
    let above = c.requires.above in
    λ budgets size fit. c.change_below.ensures.counts budgets (omega arith) fit

pub change_slots-returns-clause-spends : goal.change_slots-returns-clause-spends
change_slots-returns-clause-spends g t c =
    let ledger = g.S.Store.ledger in
    let s = c.args.store.now in
    let u = c.loop-slot.store in
    let ks = c.args.slots.now.keys.items in
    let slot = c.loop-slot.slot in
    let past : length ks ≤ slot = (let size = c.len-slot-end.ensures in let test = c.loop-slot-test.false in omega arith) in
    let here : slot ≡ length ks = omega arith in
    let all : c.loop-slot.first ≡ length c.args.changes.now = c.loop-slot.invariant.last here in
    λ few some budgets size fit.
    let front_size = front-size budgets (omega arith) in
    let x = c.loop-slot.invariant.spends (front_of budgets) (omega arith) (fit-front 0 budgets c.args.rows.now fit) in
    spends-closed (ledger s) (ledger u) slot (length c.args.changes.now) budgets c.args.rows.now c.loop-slot.rows (omega arith) (omega arith) some fit
    (subst (λ k. SpendsSlots (ledger s) (ledger u) slot k (front_of budgets) c.args.rows.now c.loop-slot.rows) all x)

pub change_slots-returns-clause-counts : goal.change_slots-returns-clause-counts
change_slots-returns-clause-counts g t c =
    let ledger = g.S.Store.ledger in
    let s = c.args.store.now in
    let u = c.loop-slot.store in
    λ budgets size fit.
    let front_size = front-size budgets (omega arith) in
    let x = c.loop-slot.invariant.spends (front_of budgets) (omega arith) (fit-front 0 budgets c.args.rows.now fit) in
    let within = c.loop-slot.invariant.within in
    slots-counts (ledger s) (ledger u) (ledger u) c.loop-slot.slot c.loop-slot.first 0 (length c.args.changes.now) budgets c.args.rows.now c.loop-slot.rows (omega arith) (omega arith)
    c.loop-slot.invariant.may x (counts-none (ledger u) _)

pub change_slots-returns-in_err-change_child-clause-counts : goal.change_slots-returns-in_err-change_child-clause-counts
change_slots-returns-in_err-change_child-clause-counts g t c =
    let ledger = g.S.Store.ledger in
    let s = c.args.store.now in
    let u = c.loop-slot.store in
    let w = c.change_child.new.store in
    let list = c.args.changes.now in
    let first = c.loop-slot.first in
    let end = c.end_below-end.result in
    let is = c.end_below-end.ensures in
    let some = take (end - first) (drop first list) in
    let cut = slice-length list first end is.from is.within in
    let whole : first + length some ≤ length list = (let a = is.from in let b = is.within in omega arith) in
    λ budgets size fit.
    let front_size = front-size budgets (omega arith) in
    let x = c.loop-slot.invariant.spends (front_of budgets) (omega arith) (fit-front 0 budgets c.args.rows.now fit) in
    let left = x.spends.left in
    slots-counts (ledger s) (ledger u) (ledger w) c.loop-slot.slot first (length some) (length list) budgets c.args.rows.now c.loop-slot.rows (omega arith) whole
    c.loop-slot.invariant.may x
    (subst (λ (st : g.row.S.Denot). CountsNodes (ledger st) (ledger w) (2 * all_of left + 2 * (length left * length some))) is.same
    (c.change_child.ensures.counts left (let e = x.spends.spends.size in omega arith) x.spends.spends.fits))

pub change_below-returns-then-level-eq0-clause-spends : goal.change_below-returns-then-level-eq0-clause-spends
change_below-returns-then-level-eq0-clause-spends g t c =
    let key = g.K.KeyOrder in
    let ledger = g.S.Store.ledger in
    let records = g.S.Frozen.records in
    let s = c.args.store.now in
    let v = c.read_node-slots.new.frozen in
    let u = c.change_leaf.new.frozen in
    let m = records s in
    let node = c.args.node in
    let rows = c.args.rows.now in
    let ks = c.deref.result.now in
    let vs = c.deref-then-level-eq0.result.now in
    let row = c.change_leaf.new.row in
    let d = c.index-rows-0.result in
    let list = c.args.changes.now in
    let bottom : c.args.level ≡ 0 = c.if-level-eq0.true in
    let keys : ks ≡ node_keys (m node) = c.deref.ensures.0 ∙ c.read_node-slots.ensures.keys in
    let values : vs ≡ node_values (m node) = c.deref-then-level-eq0.ensures.0 ∙ c.read_node-slots.ensures.values in
    let even : length ks ≡ length vs = ap length keys ∙ node-even m 1 c.args.level node c.requires.node ∙ sym (ap length values) in
    let room = node-room m 1 c.args.level node c.requires.node in
    let used = keys-length m 1 c.args.level node c.requires.node in
    let few : length ks ≤ 16 = (let e = ap length keys in omega arith) in
    let old_even = first-even m rows d c.requires.hand (let size = c.requires.rows in omega arith) in
    let seen : _ → List Change = λ r. seen_changes key.read key.order (λ (change : given.Change g.row.K.Denot). key.sought change.key) (λ (change : given.Change g.row.K.Denot). change.pair) r list in
    let same : u ≡ s = c.change_leaf.ensures.same ∙ c.read_node-slots.ensures.same in
    on_ok_both c.change_leaf.result
    (λ row_even pairs some budgets size fit.
    let n = records v in
    let more = leaf-slots (get_or rows 0 d) row (merged (seen n) (zip ks vs)) old_even row_even pairs in
    let most = merged-size (seen n) (zip ks vs) in
    let width = zip-size ks vs even in
    let count = seen-size key.read key.order (λ (change : given.Change g.row.K.Denot). key.sought change.key) (λ (change : given.Change g.row.K.Denot). change.pair) n list in
    subst (λ (st : g.row.S.Denot). SpendsBelow (ledger s) (ledger st) (length list) budgets rows (set rows 0 row)) (sym same)
    (spends-leaf (ledger s) (length list) budgets rows row d (omega arith) (let all = c.requires.rows in omega arith) some (omega arith) fit))
    c.change_leaf.ensures.row c.change_leaf.ensures.pairs

pub change_below-returns-then-level-eq0-clause-counts : goal.change_below-returns-then-level-eq0-clause-counts
change_below-returns-then-level-eq0-clause-counts g t c =
    let ledger = g.S.Store.ledger in
    let s = c.args.store.now in
    let same : c.change_leaf.new.frozen ≡ s = c.change_leaf.ensures.same ∙ c.read_node-slots.ensures.same in
    λ budgets size fit. subst (λ (st : g.row.S.Denot). CountsNodes (ledger s) (ledger st) (2 * all_of budgets + 2 * (length budgets * length c.args.changes.now))) (sym same) (counts-none (ledger s) _)

pub change_below-returns-clause-spends : goal.change_below-returns-clause-spends
change_below-returns-clause-spends g t c =
    let ledger = g.S.Store.ledger in
    let records = g.S.Frozen.records in
    let s = c.args.store.now in
    let w = c.change_slots.new.store in
    let m = records s in
    let node = c.args.node in
    let rows = c.args.rows.now in
    let ks = c.read_node-slots.result.keys.items in
    let keys : ks ≡ node_keys (m node) = c.read_node-slots.ensures.keys in
    let room = node-room m 1 c.args.level node c.requires.node in
    let used = keys-length m 1 c.args.level node c.requires.node in
    let few : length ks ≤ 16 = (let e = ap length keys in omega arith) in
    on_ok c.change_slots.result
    (λ below some budgets size fit.
    subst (λ (st : g.row.S.Denot). SpendsBelow (ledger st) (ledger w) (length c.args.changes.now) budgets rows c.change_slots.new.rows) c.read_node-slots.ensures.same (below few some budgets size fit))
    c.change_slots.ensures.spends

pub change_below-returns-clause-counts : goal.change_below-returns-clause-counts
change_below-returns-clause-counts g t c =
    let ledger = g.S.Store.ledger in
    let w = c.change_slots.new.store in
    λ budgets size fit.
    subst (λ (st : g.row.S.Denot). CountsNodes (ledger st) (ledger w) (2 * all_of budgets + 2 * (length budgets * length c.args.changes.now))) c.read_node-slots.ensures.same
    (c.change_slots.ensures.counts budgets size fit)
