use Rattle.std.proofs.Common.{rules, Bool, List, ◌*◌, ℕ, ◌≡◌, ◌<◌, ◌≤◌, ◌+◌, ◌-◌, ◌^◌, ◌++◌, ◌∷◌, [], length, arith, sym, ap, subst, ◌∙◌, take, true, refl}
use Rattle.store_api.proofs.May.{may_do-then, may_do-same}
use Rattle.store_api.specs.Units.{MayDo}
use Rattle.tree_read.specs.Nodes.{used_of, node_keys, node_values}
use Rattle.tree_read.proofs.ReadLemmas.{node-room}
use Rattle.tree_read.proofs.ChildLemmas.{keys-length}
use Rattle.tree_read.proofs.SlotLemmas.{hand-kept}
use Rattle.tree_read.specs.Slots.{slot_pairs, slot_nodes, IsInHand}
use Rattle.tree_changes.specs.Layers.{rows_pairs, AreInHand, TurnsRows}
use Rattle.frozen_nodes.proofs.MakesLemmas.{keeps-then}
use Rattle.frozen_nodes.specs.Makes.{CountsNodes}
use Rattle.tree_changes.specs.Counts.{FitBudgets, SpendsRows, Settles, all_of}
use Rattle.tree_changes.proofs.SpendLemmas.{spends-none, spends-then, spends-push, spends-opened, opened-counts, put-counts}
use Rattle.tree_changes.proofs.LayerLemmas.{on_ok, on_ok_both}
use Rattle.tree_changes.proofs.TurnLemmas.{put-settled, one-size, put-opened, opened-hand, opened-few, slot-hand-kept, slots-few, slots-more, some-level, one-node, slots-none}
use Rattle.tree_changes.proofs.layers.+putting.Goals as goal

pub put_behind-returns-then-settled-clause-turns : goal.put_behind-returns-then-settled-clause-turns
put_behind-returns-then-settled-clause-turns g t c =
    let ledger = g.S.Store.ledger in
    let records = g.S.Frozen.records in
    on_ok_both c.push_slot.result
    (put-settled (ledger c.args.store.now) (ledger c.settle.new.store) (records c.args.store.now) (records c.settle.new.store) c.args.level c.args.rows.now c.settle.new.rows
    c.push_slot.new.row c.index-rows-level.result c.args.key c.args.value c.args.replaced.now.items c.settle.new.replaced.items
    c.settle.ensures.keeps (omega arith) (c.in_ok-settled.ensures.settled c.if-settled.true) c.requires.slot c.in_ok-settled.ensures.turns)
    c.push_slot.ensures.keys c.push_slot.ensures.nodes

pub put_behind-overflow_cast-value : goal.put_behind-overflow_cast-value
put_behind-overflow_cast-value g t c =
    let m = g.S.Frozen.records c.args.store.now in
    let above = some-level c.args.level c.in_ok-settled.settled c.in_ok-settled.ensures.none c.if-settled.false in
    let size = one-size m c.args.level c.args.key c.args.value above c.requires.slot in
    let small = g.met.S.Frozen.references c.args.store.now c.args.value (omega arith) in
    omega arith

pub put_behind-read_node-slots-requires : goal.put_behind-read_node-slots-requires
put_behind-read_node-slots-requires g t c =
    let m = g.S.Frozen.records c.args.store.now in
    let n = g.S.Frozen.records c.settle.new.store in
    let above = some-level c.args.level c.in_ok-settled.settled c.in_ok-settled.ensures.none c.if-settled.false in
    let slot = hand-kept m n c.settle.ensures.keeps c.args.level (c.args.key ∷ []) (c.args.value ∷ []) c.requires.slot in
    let size = one-size n c.args.level c.args.key c.args.value above slot in
    let room = node-room n 8 (c.args.level - 1) c.args.value (one-node n c.args.level c.args.key c.args.value above slot) in
    (omega arith, (ap (λ (r : ℕ). length (n r)) c.from_raw-child.ensures ∙ size, subst (λ (r : ℕ). used_of (n r) ≤ 16) (sym c.from_raw-child.ensures) room))

pub put_behind-put_slots-requires : goal.put_behind-put_slots-requires
put_behind-put_slots-requires g t c =
    let ledger = g.S.Store.ledger in
    let records = g.S.Frozen.records in
    let s = c.args.store.now in
    let u = c.settle.new.store in
    let above = some-level c.args.level c.in_ok-settled.settled c.in_ok-settled.ensures.none c.if-settled.false in
    let turns = c.in_ok-settled.ensures.turns in
    let keys : c.deref.result.now ≡ node_keys (records u c.from_raw-child.result) = c.deref.ensures.0 ∙ c.read_node-slots.ensures.keys in
    let values : c.deref-2.result.now ≡ node_values (records u c.from_raw-child.result) = c.deref-2.ensures.0 ∙ c.read_node-slots.ensures.values in
    let hand = opened-hand (records s) (records u) c.args.level (c.args.level - 1) c.args.key c.args.value c.from_raw-child.result c.deref.result.now c.deref-2.result.now
    c.settle.ensures.keeps above refl c.requires.slot c.from_raw-child.ensures keys values in
    let few = opened-few (records s) (records u) c.args.level (c.args.level - 1) c.args.key c.args.value c.from_raw-child.result c.deref.result.now c.deref-2.result.now
    c.settle.ensures.keeps above refl c.requires.slot c.from_raw-child.ensures keys values (ledger s) (ledger u) c.args.rows.now c.settle.new.rows
    c.args.replaced.now.items c.settle.new.replaced.items c.requires.few turns in
    let same = sym c.read_node-slots.ensures.same in
    λ κs h. (
      omega arith,
      (
        search rules,
        (
          h.0,
          (
            h.1.0,
            (
              h.1.1,
              (
                subst (λ (st : g.row.S.Denot). (ledger st).unit ≡ true) same (c.settle.ensures.may.unit ∙ c.requires.unit),
                (
                  (let low = c.requires.low in omega arith),
                  (
                    turns.size ∙ c.requires.rows,
                    (
                      subst (λ (st : g.row.S.Denot). AreInHand (records st) 0 c.settle.new.rows) same turns.hand,
                      (
                        subst (λ (st : g.row.S.Denot). IsInHand (records st) (c.args.level - 1) c.deref.result.now c.deref-2.result.now) same hand,
                        subst (λ (st : g.row.S.Denot). length (rows_pairs (records st) 0 c.settle.new.rows)
                            + length (slot_pairs (records st) (c.args.level - 1) c.deref.result.now c.deref-2.result.now) < 2 ^ 32) same few,
                      ),
                    ),
                  ),
                ),
              ),
            ),
          ),
        ),
      ),
    )

pub put_behind-returns-clause-turns : goal.put_behind-returns-clause-turns
put_behind-returns-clause-turns g t c =
    let ledger = g.S.Store.ledger in
    let records = g.S.Frozen.records in
    let s = c.args.store.now in
    let u = c.settle.new.store in
    let w = c.put_slots.new.store in
    let above = some-level c.args.level c.in_ok-settled.settled c.in_ok-settled.ensures.none c.if-settled.false in
    let turns = c.in_ok-settled.ensures.turns in
    let keys : c.deref.result.now ≡ node_keys (records u c.from_raw-child.result) = c.deref.ensures.0 ∙ c.read_node-slots.ensures.keys in
    let values : c.deref-2.result.now ≡ node_values (records u c.from_raw-child.result) = c.deref-2.ensures.0 ∙ c.read_node-slots.ensures.values in
    let opened = c.in_ok-push_node.ensures.items ∙ ap (λ (q : ℕ). c.settle.new.replaced.items ++ q ∷ []) c.raw.ensures in
    on_ok c.put_slots.result
    (λ puts. put-opened (records s) (records u) c.args.level (c.args.level - 1) c.args.key c.args.value c.from_raw-child.result c.deref.result.now c.deref-2.result.now
    c.settle.ensures.keeps above refl c.requires.slot c.from_raw-child.ensures keys values (ledger s) (ledger u) (ledger w) (records w) c.args.rows.now c.settle.new.rows c.put_slots.new.rows
    c.args.replaced.now.items c.settle.new.replaced.items c.push_node.new.nodes.items c.put_slots.new.replaced.items opened turns
    (subst (λ (st : g.row.S.Denot). TurnsRows (ledger st) (ledger w) (records st) (records w) 0 c.settle.new.rows c.put_slots.new.rows
    (slot_pairs (records st) (c.args.level - 1) c.deref.result.now c.deref-2.result.now) (slot_nodes (records st) (c.args.level - 1) c.deref-2.result.now)
    c.push_node.new.nodes.items c.put_slots.new.replaced.items) c.read_node-slots.ensures.same puts))
    c.put_slots.ensures.turns

pub put_behind-returns-clause-may : goal.put_behind-returns-clause-may
put_behind-returns-clause-may g t c =
    let ledger = g.S.Store.ledger in
    may_do-then (ledger c.args.store.now) (ledger c.settle.new.store) (ledger c.put_slots.new.store) c.settle.ensures.may
    (subst (λ (st : g.row.S.Denot). MayDo (ledger st) (ledger c.put_slots.new.store)) c.read_node-slots.ensures.same c.put_slots.ensures.may)

pub put_slots-put_behind-requires : goal.put_slots-put_behind-requires
put_slots-put_behind-requires g t c =
    let ledger = g.S.Store.ledger in
    let records = g.S.Frozen.records in
    let s = c.args.store.now in
    let u = c.loop-slot.store in
    let turns = c.loop-slot.invariant.turns in
    let slot = c.loop-slot.slot in
    let low = c.loop-slot-test.true in
    λ κs h. (
      omega arith,
      (
        search rules,
        (
          h.0,
          (
            h.1.0,
            (
              h.1.1,
              (
                c.loop-slot.invariant.may.unit ∙ c.requires.unit,
                (
                  c.requires.low,
                  (
                    turns.size ∙ c.requires.rows,
                    (
                      turns.hand,
                      (
                        slot-hand-kept (records s) c.args.level c.args.keys.now c.args.values.now c.requires.slots slot low (records u) c.loop-slot.invariant.keeps,
                        slots-few (records s) c.args.level c.args.keys.now c.args.values.now c.requires.slots slot low (records u) c.loop-slot.invariant.keeps
                            (ledger s) (ledger u) 0 c.args.rows.now c.loop-slot.rows (slot_nodes (records s) c.args.level (take slot c.args.values.now))
                            c.args.replaced.now.items c.loop-slot.replaced.items c.requires.few turns,
                      ),
                    ),
                  ),
                ),
              ),
            ),
          ),
        ),
      ),
    )

pub put_slots-loop-slot-init : goal.put_slots-loop-slot-init
put_slots-loop-slot-init g t c =
    let ledger = g.S.Store.ledger c.args.store.now in
    record {
      turns = slots-none ledger (g.S.Frozen.records c.args.store.now) c.args.level c.args.rows.now c.args.replaced.now.items c.requires.hand;
      keeps = λ r some. refl;
      stays = λ r. omega arith;
      may = may_do-same ledger;
      spends = λ budgets size fit. spends-none ledger budgets c.args.rows.now fit;
    }

pub put_slots-returns-in_err-put_behind-clause-may : goal.put_slots-returns-in_err-put_behind-clause-may
put_slots-returns-in_err-put_behind-clause-may g t c =
    let ledger = g.S.Store.ledger in
    may_do-then (ledger c.args.store.now) (ledger c.loop-slot.store) (ledger c.put_behind.new.store) c.loop-slot.invariant.may c.put_behind.ensures.may

pub put_slots-loop-slot-preserved : goal.put_slots-loop-slot-preserved
put_slots-loop-slot-preserved g t c =
    let ledger = g.S.Store.ledger in
    let records = g.S.Frozen.records in
    let s = c.args.store.now in
    let u = c.loop-slot.store in
    let w = c.put_behind.new.store in
    let slot = c.loop-slot.slot in
    let low = c.loop-slot-test.true in
    let keeps = c.loop-slot.invariant.keeps in
    record {
      turns = slots-more (records s) c.args.level c.args.keys.now c.args.values.now c.requires.slots slot low (records u) keeps (ledger s) (ledger u) (ledger w) (records w) 0 (slot + 1)
          c.args.rows.now c.loop-slot.rows c.put_behind.new.rows c.args.replaced.now.items c.loop-slot.replaced.items c.put_behind.new.replaced.items (omega arith)
          c.loop-slot.invariant.turns c.in_ok-put_behind.ensures.turns;
      keeps = keeps-then (records s) (records u) (records w) keeps c.put_behind.ensures.keeps;
      stays = λ r. let a = c.loop-slot.invariant.stays r in let b = c.put_behind.ensures.stays r in omega arith;
      may = may_do-then (ledger s) (ledger u) (ledger w) c.loop-slot.invariant.may c.put_behind.ensures.may;
      spends = λ budgets size fit.
          let x = c.loop-slot.invariant.spends budgets size fit in
          spends-then (ledger s) (ledger u) (ledger w) slot 0 1 0 budgets c.args.rows.now c.loop-slot.rows c.put_behind.new.rows (omega arith) c.loop-slot.invariant.may x
          (c.in_ok-put_behind.ensures.spends x.left (x.spends.size ∙ size) x.spends.fits);
    }

pub put_slots-returns-in_err-put_behind-clause-counts : goal.put_slots-returns-in_err-put_behind-clause-counts
put_slots-returns-in_err-put_behind-clause-counts g t c =
    let ledger = g.S.Store.ledger in
    λ budgets size fit.
    let x = c.loop-slot.invariant.spends budgets size fit in
    put-counts (ledger c.args.store.now) (ledger c.loop-slot.store) (ledger c.put_behind.new.store) c.loop-slot.slot budgets c.args.rows.now c.loop-slot.rows c.loop-slot.invariant.may x
    (c.put_behind.ensures.counts x.left (x.spends.size ∙ size) x.spends.fits)

pub put_behind-returns-then-settled-clause-spends : goal.put_behind-returns-then-settled-clause-spends
put_behind-returns-then-settled-clause-spends g t c =
    let ledger = g.S.Store.ledger in
    let low : c.args.level < length c.settle.new.rows = (let size = c.in_ok-settled.ensures.turns.size in let all = c.requires.rows in let most = c.requires.low in omega arith) in
    on_ok c.push_slot.result
    (λ keys budgets size fit.
    spends-push (ledger c.args.store.now) (ledger c.settle.new.store) budgets c.args.level c.args.rows.now c.settle.new.rows c.push_slot.new.row c.index-rows-level.result c.args.key size low keys
    (c.in_ok-settled.ensures.spends budgets size fit).spends)
    c.push_slot.ensures.keys

pub put_behind-returns-clause-spends : goal.put_behind-returns-clause-spends
put_behind-returns-clause-spends g t c =
    let ledger = g.S.Store.ledger in
    let s = c.args.store.now in
    let u = c.settle.new.store in
    let w = c.put_slots.new.store in
    let n = g.S.Frozen.records u in
    let rows = c.settle.new.rows in
    let above = some-level c.args.level c.in_ok-settled.settled c.in_ok-settled.ensures.none c.if-settled.false in
    let slot = hand-kept (g.S.Frozen.records s) n c.settle.ensures.keeps c.args.level (c.args.key ∷ []) (c.args.value ∷ []) c.requires.slot in
    let node = one-node n c.args.level c.args.key c.args.value above slot in
    let room = node-room n 8 (c.args.level - 1) c.args.value node in
    let used = keys-length n 8 (c.args.level - 1) c.args.value node in
    let keys : c.deref.result.now ≡ node_keys (n c.args.value) = c.deref.ensures.0 ∙ c.read_node-slots.ensures.keys ∙ ap (λ (q : ℕ). node_keys (n q)) c.from_raw-child.ensures in
    let few : length c.deref.result.now ≤ 16 = (let size = ap length keys in omega arith) in
    on_ok c.put_slots.result
    (λ puts budgets size fit.
    spends-opened (ledger s) (ledger u) (ledger w) budgets c.args.rows.now rows c.put_slots.new.rows (c.args.level - 1) (length c.deref.result.now) (omega arith) few c.settle.ensures.may
    (subst (λ (b : Bool). Settles (ledger s) (ledger u) budgets c.args.rows.now rows b) c.if-settled.false (c.in_ok-settled.ensures.spends budgets size fit))
    (subst (λ (st : g.row.S.Denot). (bs : List ℕ) → length bs ≡ c.args.level - 1 → FitBudgets 0 bs rows → SpendsRows (ledger st) (ledger w) (length c.deref.result.now) 0 bs rows c.put_slots.new.rows)
    c.read_node-slots.ensures.same puts))
    c.put_slots.ensures.spends

pub put_behind-returns-clause-counts : goal.put_behind-returns-clause-counts
put_behind-returns-clause-counts g t c =
    let ledger = g.S.Store.ledger in
    let s = c.args.store.now in
    let u = c.settle.new.store in
    let w = c.put_slots.new.store in
    let rows = c.settle.new.rows in
    let above = some-level c.args.level c.in_ok-settled.settled c.in_ok-settled.ensures.none c.if-settled.false in
    λ budgets size fit.
    opened-counts (ledger s) (ledger u) (ledger w) budgets c.args.rows.now rows (c.args.level - 1) (omega arith) c.settle.ensures.may
    (subst (λ (b : Bool). Settles (ledger s) (ledger u) budgets c.args.rows.now rows b) c.if-settled.false (c.in_ok-settled.ensures.spends budgets size fit))
    (subst (λ (st : g.row.S.Denot). (bs : List ℕ) → length bs ≡ c.args.level - 1 → FitBudgets 0 bs rows → CountsNodes (ledger st) (ledger w) (2 * all_of bs))
    c.read_node-slots.ensures.same c.put_slots.ensures.counts)
